-- No more connections are counted than the limit allows.
use Rattle.std.proofs.Common.{◌≡◌, ◌≤◌, ℕ, ◌+◌, Bool, true, false, cond, not, List, [], ◌∷◌, ◌++◌, map, refl, subst, sym, arith, ◌==◌, ltb-true}
use Rattle.std.proofs.lemmas.List.Sums.{sum_by-cons, sum_by_push}
use Rattle.cy_event.specs.declared.limits.Limits.{Limits}
use Rattle.cy_event.specs.declared.steps.Step.{Step}
use Rattle.cy_event.specs.declared.steps.Step.TheVariants as step
use Rattle.cy_map.specs.declared.rule.Rule.{Rule}
use Rattle.cy_model.specs.Connections.{History, add_own, admits, connections, counted, moment, with_entry}
use Rattle.cy_model.specs.Entries.{Entry, opening, on_event, on_run, on_act, tick, trace_of}
use Rattle.cy_model.specs.Outputs.{is_gone}
use Rattle.cy_model.specs.Laws.{LimitIsKept}
use Rattle.cy_model.proofs.Gone.{gone_stays_gone}

module _ (limits : Limits) (rules : List Rule) where
  -- what one connection counts
  one : History → ℕ
  one h = cond (not (is_gone (trace_of limits rules h.entries))) 1 0

  at_most_one : (v : Bool) → cond (not v) 1 0 ≤ 1
  at_most_one true = omega arith
  at_most_one false = omega arith

  -- an entry makes nothing count that didn't
  entry_counts : (t : ℕ) (e : Entry) (h : History) → one (with_entry t e h) ≤ one h
  unfolding one
  entry_counts t e h =
      let T = trace_of limits rules h.entries in
      elim (is_gone T) as (λ v. is_gone T ≡ v → one (with_entry t e h) ≤ cond (not v) 1 0) [
        | true ↦ λ gone. subst (λ (v : Bool). cond (not v) 1 0 ≤ 0) (sym (gone_stays_gone limits rules t T e gone).gone) (omega arith)
        | false ↦ λ g. at_most_one (is_gone (trace_of limits rules (with_entry t e h).entries))
      ] refl

  count_first : (h : History) (hs : List History) → counted limits rules (h ∷ hs) ≡ one h + counted limits rules hs
  unfolding one
  count_first h hs = sum_by-cons one h hs

  count_last : (hs : List History) (h : History) → counted limits rules (hs ++ h ∷ []) ≤ counted limits rules hs + 1
  unfolding one
  count_last hs h = omega (arith, sum_by_push one hs h, at_most_one (is_gone (trace_of limits rules h.entries)))

  ticks_count : (t : ℕ) (hs : List History) → counted limits rules (map (with_entry t tick) hs) ≤ counted limits rules hs
  ticks_count t [] = omega arith
  ticks_count t (h ∷ hs) =
      omega (arith, count_first (with_entry t tick h) (map (with_entry t tick) hs), count_first h hs, entry_counts t tick h, ticks_count t hs)

  own_counts : (t c : ℕ) (e : Entry) (hs : List History) → counted limits rules (add_own t c e hs) ≤ counted limits rules hs
  own_counts t c e [] = omega arith
  own_counts t c e (h ∷ hs) =
      elim (h.number == c) as (λ v. counted limits rules (cond v (with_entry t e h) h ∷ add_own t c e hs) ≤ counted limits rules (h ∷ hs)) [
        | true ↦ omega (arith, count_first (with_entry t e h) (add_own t c e hs), count_first h hs, entry_counts t e h, own_counts t c e hs)
        | false ↦ omega (arith, count_first h (add_own t c e hs), count_first h hs, own_counts t c e hs)
      ]

  few_counted : (w : List Step) → counted limits rules (connections limits rules w) ≤ limits.max_connections
  few_counted [] = omega arith
  few_counted (step.At t ∷ w) = omega (arith, few_counted w, ticks_count t (connections limits rules w))
  few_counted (step.Admit c ∷ w) =
      let hs = connections limits rules w in
      let new : History = record { number = c; entries = (moment w, opening) ∷ [] } in
      elim (admits limits rules hs) as (λ v. admits limits rules hs ≡ v → counted limits rules (cond v (hs ++ new ∷ []) hs) ≤ limits.max_connections) [
        | true ↦ λ e. omega (arith, ltb-true (counted limits rules hs) limits.max_connections e, count_last hs new)
        | false ↦ λ e. few_counted w
      ] refl
  few_counted (step.On c e b ∷ w) = omega (arith, few_counted w, own_counts (moment w) c (on_event e b) (connections limits rules w))
  few_counted (step.Run c ∷ w) = omega (arith, few_counted w, own_counts (moment w) c on_run (connections limits rules w))
  few_counted (step.Act c a b ∷ w) = omega (arith, few_counted w, own_counts (moment w) c (on_act a b) (connections limits rules w))

pub limit_is_kept : LimitIsKept
limit_is_kept limits rules w = few_counted limits rules w
