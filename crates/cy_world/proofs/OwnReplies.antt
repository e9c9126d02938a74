-- The replies to a connection are those to its own entries.
use Rattle.std.proofs.Common.{◌≡◌, ℕ, ◌+◌, arith, length, length-append, Bool, true, false, not, ◌&&◌, ◌==◌, List, [], ◌∷◌, ◌++◌, Option, Some, None, is_some, option_map, unwrap_or, refl, sym, ap, ◌∙◌, subst, ◌⊎◌, inl, inr, if◌then◌else◌}
use Rattle.std.proofs.lemmas.Bool.{cases_eq, eq-eqb, ne_eqb}
use Rattle.std.proofs.lemmas.List.{append-nil}
use Rattle.cy_event.specs.declared.limits.Limits.{Limits}
use Rattle.cy_event.specs.declared.steps.Reply.TheVariants as reply
use Rattle.cy_event.specs.declared.steps.Step.{Step}
use Rattle.cy_event.specs.declared.steps.Step.TheVariants as step
use Rattle.cy_map.specs.declared.rule.Rule.{Rule}
use Rattle.cy_model.specs.Connections.{History, admits, connections, counted, find_own, kind_of, moment, own, own_entries, own_reply, replies, reply_by}
use Rattle.cy_model.specs.Entries.{Entry, opening, tick, on_act, on_event, on_run, reply_to, trace_of}
use Rattle.cy_model.specs.Replies.{Replied, plain}
use Rattle.cy_model.proofs.OwnEntries.{clock_ticks_for_each, own_steps_add_own_entries}
use Rattle.cy_world.specs.Laws.{RepliesAreOwn, is_in, is_step_of, marked, own_steps, replies_alone, replies_to, reply_alone}

-- the replies to entries, if there are any
abbrev alone_of : Limits → List Rule → Option (List (ℕ × Entry)) → List Replied
alone_of limits rules o = replies_alone limits rules (unwrap_or o [])

-- one entry more
abbrev more : ℕ → Entry → List (ℕ × Entry) → List (ℕ × Entry)
more t e entries = (t, e) ∷ entries

-- ---- the clock

ticked : (limits : Limits) (rules : List Rule) (t : ℕ) (o : Option (List (ℕ × Entry))) → alone_of limits rules (option_map (more t tick) o) ≡ alone_of limits rules o
ticked limits rules t None = refl
ticked limits rules t (Some es) = append-nil (replies_alone limits rules es)

-- ---- an entry of a connection

-- of the connection itself
taken : (limits : Limits) (rules : List Rule) (t : ℕ) (e : Entry) (o : Option (List (ℕ × Entry)))
    → ((es : List (ℕ × Entry)) → reply_alone limits rules t es e ≡ reply_to limits rules t (trace_of limits rules es) e ∷ [])
    → alone_of limits rules o ++ (if is_some o && true then own_reply limits rules t o e ∷ [] else []) ≡ alone_of limits rules (option_map (more t e) o)
taken limits rules t e None answered = refl
taken limits rules t e (Some es) answered = ap (λ (rs : List Replied). replies_alone limits rules es ++ rs) (sym (answered es))

-- of another one
passed : (v : Bool) (rs : List Replied) (r : Replied) → rs ++ (if v && false then r ∷ [] else []) ≡ rs
passed true rs r = append-nil rs
passed false rs r = append-nil rs

-- the replies with that to a step of the number n, if it is c
abbrev replies_with : Limits → List Rule → List Step → ℕ → Entry → Bool → ℕ → List Replied
replies_with limits rules w c e is_c n =
    alone_of limits rules (own_entries limits rules w c)
    ++ (if is_in limits rules c w && is_c then own_reply limits rules (moment w) (own_entries limits rules w n) e ∷ [] else [])

-- a step of some connection
stepped : (limits : Limits) (rules : List Rule) (w : List Step) (s : Step) (c d : ℕ) (e : Entry) → kind_of s ≡ own d e
    → ((es : List (ℕ × Entry)) → reply_alone limits rules (moment w) es e ≡ reply_to limits rules (moment w) (trace_of limits rules es) e ∷ [])
    → replies_with limits rules w c e (d == c) d ≡ alone_of limits rules (own_entries limits rules (s ∷ w) c)
stepped limits rules w s c d e kind answered = by_number (cases_eq d c)
  where
    by_number : (d ≡ c) ⊎ (d ≡ c → ⊥) → replies_with limits rules w c e (d == c) d ≡ alone_of limits rules (own_entries limits rules (s ∷ w) c)
    by_number (inl same) =
        let law = own_steps_add_own_entries limits rules w s c e (kind ∙ ap (λ (n : ℕ). own n e) same) in
        ap (λ (v : Bool). replies_with limits rules w c e v d) (eq-eqb d c same)
        ∙ ap (λ (n : ℕ). replies_with limits rules w c e true n) same
        ∙ taken limits rules (moment w) e (own_entries limits rules w c) answered
        ∙ ap (alone_of limits rules) (sym law.own)
    by_number (inr other) =
        let law = own_steps_add_own_entries limits rules w s d e kind in
        ap (λ (v : Bool). replies_with limits rules w c e v d) (ne_eqb d c other)
        ∙ passed (is_in limits rules c w) (alone_of limits rules (own_entries limits rules w c)) (own_reply limits rules (moment w) (own_entries limits rules w d) e)
        ∙ ap (alone_of limits rules) (sym (law.other c (λ same. other (sym same))))

-- ---- an admission

-- what is found where one is put last
abbrev found_first : Option (List (ℕ × Entry)) → Option (List (ℕ × Entry)) → Option (List (ℕ × Entry))
found_first (Some es) last = Some es
found_first None last = last

found_last : (c : ℕ) (h : History) (hs : List History) → find_own c (hs ++ h ∷ []) ≡ found_first (find_own c hs) (if h.number == c then Some h.entries else None)
found_last c h [] = refl
found_last c h (g ∷ gs) =
    elim (g.number == c) as (λ v. (if v then Some g.entries else find_own c (gs ++ h ∷ []))
    ≡ found_first (if v then Some g.entries else find_own c gs) (if h.number == c then Some h.entries else None)) [
      | true ↦ refl
      | false ↦ found_last c h gs
    ]

-- one that is answered `Full`
refused : (v : Bool) (rs : List Replied) (r : Replied) → rs ++ (if not v && v then r ∷ [] else []) ≡ rs
refused true rs r = append-nil rs
refused false rs r = append-nil rs

opened : (limits : Limits) (rules : List Rule) (t : ℕ) (v : Bool) (o : Option (List (ℕ × Entry)))
    → alone_of limits rules o
    ++ (if not (is_some o) && is_some (found_first o (if v then Some ((t, opening) ∷ []) else None)) then plain reply.Entered ∷ [] else [])
    ≡ alone_of limits rules (found_first o (if v then Some ((t, opening) ∷ []) else None))
unfolding reply_to
opened limits rules t true None = refl
opened limits rules t false None = refl
opened limits rules t v (Some es) = append-nil (replies_alone limits rules es)

admitted : (limits : Limits) (rules : List Rule) (w : List Step) (c d : ℕ)
    → alone_of limits rules (own_entries limits rules w c)
    ++ (if not (is_in limits rules c w) && is_in limits rules c (step.Admit d ∷ w)
    then plain (if admits limits rules (connections limits rules w) then reply.Entered else reply.Full (counted limits rules (connections limits rules w))) ∷ []
    else [])
    ≡ alone_of limits rules (own_entries limits rules (step.Admit d ∷ w) c)
admitted limits rules w c d =
    let hs = connections limits rules w in
    let entry : History = record { number = d; entries = (moment w, opening) ∷ [] } in
    elim (admits limits rules hs) as (λ a. alone_of limits rules (find_own c hs)
    ++ (if not (is_some (find_own c hs)) && is_some (find_own c (if a then hs ++ entry ∷ [] else hs))
    then plain (if a then reply.Entered else reply.Full (counted limits rules hs)) ∷ []
    else [])
    ≡ alone_of limits rules (find_own c (if a then hs ++ entry ∷ [] else hs))) [
      | true ↦
          subst (λ (o : Option (List (ℕ × Entry))). alone_of limits rules (find_own c hs)
          ++ (if not (is_some (find_own c hs)) && is_some o then plain reply.Entered ∷ [] else []) ≡ alone_of limits rules o)
          (sym (found_last c entry hs))
          (opened limits rules (moment w) (d == c) (find_own c hs))
      | false ↦ refused (is_some (find_own c hs)) (alone_of limits rules (find_own c hs)) (plain (reply.Full (counted limits rules hs)))
    ]

-- ---- picking

-- the replies to the steps of the connection, one step after another
abbrev picked : Limits → List Rule → ℕ → List Step → List Replied
picked limits rules c [] = []
picked limits rules c (s ∷ w) =
    picked limits rules c w
    ++ (if is_step_of c (kind_of s) (is_in limits rules c w) (is_in limits rules c (s ∷ w))
    then reply_by limits rules (kind_of s) (moment (s ∷ w)) (connections limits rules w) ∷ []
    else [])

-- one more of each
marked_last : (vs : List Bool) (rs : List Replied) (v : Bool) (r : Replied) → length vs ≡ length rs
    → marked (vs ++ v ∷ []) (rs ++ r ∷ []) ≡ marked vs rs ++ (if v then r ∷ [] else [])
marked_last [] [] v r same = refl
marked_last [] (q ∷ rs) v r same = absurd (omega (arith, same))
marked_last (u ∷ vs) [] v r same = absurd (omega (arith, same))
marked_last (true ∷ vs) (q ∷ rs) v r same = ap (λ (ps : List Replied). q ∷ ps) (marked_last vs rs v r (omega (arith, same)))
marked_last (false ∷ vs) (q ∷ rs) v r same = marked_last vs rs v r (omega (arith, same))

as_many : (limits : Limits) (rules : List Rule) (c : ℕ) (w : List Step) → length (own_steps limits rules c w) ≡ length (replies limits rules w)
as_many limits rules c [] = refl
as_many limits rules c (s ∷ w) =
    let v = is_step_of c (kind_of s) (is_in limits rules c w) (is_in limits rules c (s ∷ w)) in
    let r = reply_by limits rules (kind_of s) (moment (s ∷ w)) (connections limits rules w) in
    length-append (own_steps limits rules c w) (v ∷ [])
    ∙ ap (λ (n : ℕ). n + 1) (as_many limits rules c w)
    ∙ sym (length-append (replies limits rules w) (r ∷ []))

are_picked : (limits : Limits) (rules : List Rule) (c : ℕ) (w : List Step) → replies_to limits rules c w ≡ picked limits rules c w
are_picked limits rules c [] = refl
are_picked limits rules c (s ∷ w) =
    let v = is_step_of c (kind_of s) (is_in limits rules c w) (is_in limits rules c (s ∷ w)) in
    let r = reply_by limits rules (kind_of s) (moment (s ∷ w)) (connections limits rules w) in
    marked_last (own_steps limits rules c w) (replies limits rules w) v r (as_many limits rules c w)
    ∙ ap (λ (rs : List Replied). rs ++ (if v then r ∷ [] else [])) (are_picked limits rules c w)

-- ---- each step

each_is_own : (limits : Limits) (rules : List Rule) (w : List Step) (c : ℕ) → picked limits rules c w ≡ alone_of limits rules (own_entries limits rules w c)
each_is_own limits rules [] c = refl
each_is_own limits rules (step.At t ∷ w) c =
    append-nil (picked limits rules c w)
    ∙ each_is_own limits rules w c
    ∙ sym (ticked limits rules t (own_entries limits rules w c))
    ∙ ap (alone_of limits rules) (sym (clock_ticks_for_each limits rules w t c))
each_is_own limits rules (step.Admit d ∷ w) c =
    ap (λ (rs : List Replied). rs ++ (if not (is_in limits rules c w) && is_in limits rules c (step.Admit d ∷ w)
    then plain (if admits limits rules (connections limits rules w) then reply.Entered else reply.Full (counted limits rules (connections limits rules w))) ∷ []
    else [])) (each_is_own limits rules w c)
    ∙ admitted limits rules w c d
each_is_own limits rules (step.On d e b ∷ w) c =
    ap (λ (rs : List Replied). rs ++ (if is_in limits rules c w && (d == c) then own_reply limits rules (moment w) (own_entries limits rules w d) (on_event e b) ∷ [] else [])) (each_is_own limits rules w c)
    ∙ stepped limits rules w (step.On d e b) c d (on_event e b) refl (λ es. refl)
each_is_own limits rules (step.Run d ∷ w) c =
    ap (λ (rs : List Replied). rs ++ (if is_in limits rules c w && (d == c) then own_reply limits rules (moment w) (own_entries limits rules w d) on_run ∷ [] else [])) (each_is_own limits rules w c)
    ∙ stepped limits rules w (step.Run d) c d on_run refl (λ es. refl)
each_is_own limits rules (step.Act d a b ∷ w) c =
    ap (λ (rs : List Replied). rs ++ (if is_in limits rules c w && (d == c) then own_reply limits rules (moment w) (own_entries limits rules w d) (on_act a b) ∷ [] else [])) (each_is_own limits rules w c)
    ∙ stepped limits rules w (step.Act d a b) c d (on_act a b) refl (λ es. refl)

-- ---- the law

pub replies_are_own : RepliesAreOwn
replies_are_own limits rules w c = are_picked limits rules c w ∙ each_is_own limits rules w c
