-- What is told of one connection: the charts of its requests, each with its number, and its lines.
use Rattle.std.proofs.Common.{◌≡◌, ◌<◌, ℕ, ◌+◌, List, [], ◌∷◌, ◌++◌, length, map, take, get_or, Option, refl, sym, ap, ◌∙◌, subst, arith}
use Rattle.std.proofs.lemmas.List.{length-map, length-take-le, map-append, take_more}
use Rattle.cy_event.specs.declared.steps.CloseCause.{CloseCause}
use Rattle.cy_event.specs.declared.table.ChartItem.{ChartItem}
use Rattle.cy_model.specs.Folds.{cause_of}
use Rattle.cy_model.specs.Marks.{Trace}
use Rattle.cy_model.specs.Outputs.{output, took}
use Rattle.cy_model.specs.Reports.{connection_text, trace_text}
use Rattle.cy_proc.specs.Processors.{is_open_at}
use Rattle.cy_tape.specs.Laws.{AreNumberedFrom}
use Rattle.cy_tape.specs.declared.chart.Chart.{Chart}
use Rattle.cy_world.specs.Answered.{Keeps, Parts, Tells}
use Rattle.cy_world.specs.Places.{charts_in}
use Rattle.cy_world.specs.Reporting.{items_of}
use Rattle.cy_world.specs.Told.{TalliesEach}
use Rattle.cy_world.specs.declared.seat.Account.{Account}
use Rattle.cy_world.specs.declared.seat.Tally.{Tally}
use Rattle.cy_world.specs.declared.terms.Terms.{Terms}
use Rattle.cy_world.proofs.Keeping.{charts_told}
use Rattle.cy_world.proofs.Lives.{all_charts}

-- ---- numbers

numbered_last : (n : ℕ) (charts : List Chart) (x : Chart) → AreNumberedFrom n charts → x.request ≡ n + length charts → AreNumberedFrom n (charts ++ x ∷ [])
numbered_last n [] x numbers is = (omega (arith, is), tt)
numbered_last n (c ∷ cs) x numbers is = (numbers.0, numbered_last (n + 1) cs x numbers.1 (omega (arith, is)))

-- copies of these charts, with their numbers
pub record AreCopies (copies : List Chart) (charts : List (List ChartItem)) : Type 0 where
  pub items : map items_of copies ≡ charts
  pub numbers : AreNumberedFrom 1 copies

-- one more, behind all
pub copied_last : (copies new : List Chart) (charts : List (List ChartItem)) (x : Chart) → AreCopies copies charts → new ≡ copies ++ x ∷ [] → x.request ≡ length copies + 1
    → AreCopies new (charts ++ x.items ∷ [])
copied_last copies new charts x are pushed is =
    subst (λ (cs : List Chart). AreCopies cs (charts ++ x.items ∷ [])) (sym pushed) (record {
      items = map-append items_of copies (x ∷ []) ∙ ap (λ (u : List (List ChartItem)). u ++ x.items ∷ []) are.items;
      numbers = numbered_last 1 copies x are.numbers (omega (arith, is));
    })

-- one more, behind those before it
pub copied_more : (copies new : List Chart) (charts : List (List ChartItem)) (i : ℕ) (x : Chart) (chart : List ChartItem) → AreCopies copies (take i charts) → new ≡ copies ++ x ∷ [] → i < length charts
    → x.items ≡ chart → chart ≡ get_or charts i chart → x.request ≡ i + 1 → AreCopies new (take (i + 1) charts)
copied_more copies new charts i x chart are pushed h copied is number =
    let count : length copies ≡ i =
    sym (length-map copies items_of) ∙ ap length are.items ∙ length-take-le i charts (omega (arith, h)) in
    subst (λ (cs : List (List ChartItem)). AreCopies new cs)
    (ap (λ (k : List ChartItem). take i charts ++ k ∷ []) (copied ∙ is) ∙ sym (take_more charts i chart h))
    (copied_last copies new (take i charts) x are pushed (omega (arith, number, count)))

-- ---- lines

-- those of what a connection came to
came_to : (n : ℕ) (T : Trace) (why : Option CloseCause) (taken : ℕ) (written : List ℕ) (items : List (List ChartItem)) → why ≡ cause_of T → taken ≡ took T → written ≡ output T
    → connection_text n why taken written items ≡ connection_text n (cause_of T) (took T) (output T) items
came_to n T why taken written items causes takes writes =
    ap (λ (k : Option CloseCause). connection_text n k taken written items) causes
    ∙ ap (λ (t : ℕ). connection_text n (cause_of T) t written items) takes
    ∙ ap (λ (u : List ℕ). connection_text n (cause_of T) (took T) u items) writes

pub seat_told : (n : ℕ) (s : Terms) (T : Trace) (p : Parts) (t : Tally) (written : List ℕ) (items : List (List ChartItem)) → Keeps s T p → TalliesEach p t → written ≡ p.written → items ≡ charts_in p.live
    → connection_text n t.cause t.took written items ≡ trace_text n T
seat_told n s T p t written items keeps tallies wrote drawn =
    let tally = tallies s T keeps in
    came_to n T t.cause t.took written items (ap (λ (u : Tally). u.cause) tally) (ap (λ (u : Tally). u.took) tally) (wrote ∙ keeps.written)
    ∙ ap (connection_text n (cause_of T) (took T) (output T))
    (drawn ∙ charts_told (is_open_at p.live.processor.stage) T p.live.charts p.live.processor refl keeps.lives.serves.processor (all_charts T p.live keeps.kept keeps.lives))

pub account_told : (n : ℕ) (T : Trace) (a : Account) (written : List ℕ) (items : List (List ChartItem)) → Tells T a → written ≡ a.written → items ≡ a.charts.items
    → connection_text n a.cause a.took written items ≡ trace_text n T
account_told n T a written items tells wrote drawn =
    came_to n T a.cause a.took written items tells.cause tells.took (wrote ∙ tells.written)
    ∙ ap (connection_text n (cause_of T) (took T) (output T)) (drawn ∙ tells.charts)
