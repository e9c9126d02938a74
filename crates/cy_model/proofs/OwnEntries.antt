-- What each kind of step does to the own entries of the connections.
use Rattle.std.proofs.Common.{◌≡◌, ◌≢◌, ℕ, Bool, true, false, cond, List, [], ◌∷◌, ◌++◌, map, Option, Some, None, option_map, refl, sym, ap, ◌∙◌, ◌==◌, if◌then◌else◌}
use Rattle.std.proofs.lemmas.Bool.{eqb-true, eq-eqb}
use Rattle.cy_event.specs.declared.steps.Reply.TheVariants as reply
use Rattle.cy_event.specs.declared.steps.Step.TheVariants as step
use Rattle.cy_model.specs.Connections.{History, Kind, add_own, admits, connections, counted, find_own, own_reply, moment, moment_after, with_entry, with_step}
use Rattle.cy_model.specs.Entries.{Entry, opening, tick, trace_of}
use Rattle.cy_model.specs.Laws.{AdmissionsOpenOne, ClockTicksForEach, FullOpensNone, OwnEntriesDecide, OwnStepsAddOwnEntries}
use Rattle.cy_model.specs.Replies.{Replied, plain}

-- one entry more
abbrev more : ℕ → Entry → List (ℕ × Entry) → List (ℕ × Entry)
more t e entries = (t, e) ∷ entries

found_own : (t c : ℕ) (e : Entry) (hs : List History) → find_own c (add_own t c e hs) ≡ option_map (more t e) (find_own c hs)
found_own t c e [] = refl
found_own t c e (h ∷ hs) =
    elim (h.number == c) as (λ v. h.number == c ≡ v
    → (if (cond v (with_entry t e h) h).number == c then Some (cond v (with_entry t e h) h).entries else find_own c (add_own t c e hs))
    ≡ option_map (more t e) (cond v (Some h.entries) (find_own c hs))) [
      | true ↦ λ q. ap (λ (b : Bool). if b then Some ((t, e) ∷ h.entries) else find_own c (add_own t c e hs)) q
      | false ↦ λ q. ap (λ (b : Bool). if b then Some h.entries else find_own c (add_own t c e hs)) q ∙ found_own t c e hs
    ] refl

found_other : (t c d : ℕ) (e : Entry) (hs : List History) → d ≢ c → find_own d (add_own t c e hs) ≡ find_own d hs
found_other t c d e [] other = refl
found_other t c d e (h ∷ hs) other =
    elim (h.number == c) as (λ v. h.number == c ≡ v
    → (if (cond v (with_entry t e h) h).number == d then Some (cond v (with_entry t e h) h).entries else find_own d (add_own t c e hs))
    ≡ (if h.number == d then Some h.entries else find_own d hs)) [
      | true ↦ λ q.
          let away : h.number == d ≡ false = differs h.number c d q other in
          ap (λ (b : Bool). if b then Some ((t, e) ∷ h.entries) else find_own d (add_own t c e hs)) away
          ∙ found_other t c d e hs other
          ∙ sym (ap (λ (b : Bool). if b then Some h.entries else find_own d hs) away)
      | false ↦ λ q. ap (λ (o : Option (List (ℕ × Entry))). if h.number == d then Some h.entries else o) (found_other t c d e hs other)
    ] refl
  where
    differs : (n c d : ℕ) → n == c ≡ true → d ≢ c → n == d ≡ false
    differs n c d same other =
        elim (n == d) as (λ v. n == d ≡ v → v ≡ false) [
          | true ↦ λ q. absurd (other (sym (eqb-true n d q) ∙ eqb-true n c same))
          | false ↦ λ q. refl
        ] refl

found_ticked : (t c : ℕ) (hs : List History) → find_own c (map (with_entry t tick) hs) ≡ option_map (more t tick) (find_own c hs)
found_ticked t c [] = refl
found_ticked t c (h ∷ hs) =
    elim (h.number == c) as (λ v. (if v then Some ((t, tick) ∷ h.entries) else find_own c (map (with_entry t tick) hs))
    ≡ option_map (more t tick) (cond v (Some h.entries) (find_own c hs))) [
      | true ↦ refl
      | false ↦ found_ticked t c hs
    ]

-- a connection that is put last
found_last : (c : ℕ) (h : History) (hs : List History) → h.number ≡ c → find_own c hs ≡ None → find_own c (hs ++ h ∷ []) ≡ Some h.entries
found_last c h [] here none = ap (λ (b : Bool). if b then Some h.entries else None) (eq-eqb h.number c here)
found_last c h (g ∷ gs) here none =
    elim (g.number == c) as (λ v. (if v then Some g.entries else find_own c gs) ≡ None
    → (if v then Some g.entries else find_own c (gs ++ h ∷ [])) ≡ Some h.entries) [
      | true ↦ λ q. cc
      | false ↦ λ q. found_last c h gs here q
    ] none

found_before : (d : ℕ) (h : History) (hs : List History) → h.number == d ≡ false → find_own d (hs ++ h ∷ []) ≡ find_own d hs
found_before d h [] away = ap (λ (b : Bool). if b then Some h.entries else None) away
found_before d h (g ∷ gs) away = ap (λ (o : Option (List (ℕ × Entry))). if g.number == d then Some g.entries else o) (found_before d h gs away)

-- ---- the laws

pub own_steps_add_own_entries : OwnStepsAddOwnEntries
own_steps_add_own_entries limits rules w s c e kind =
    let hs = connections limits rules w in
    let same : connections limits rules (s ∷ w) ≡ add_own (moment w) c e hs
    = ap (λ (k : Kind). with_step limits rules k (moment_after k (moment w)) hs) kind in
    record {
      own = ap (find_own c) same ∙ found_own (moment w) c e hs;
      other = λ d away. ap (find_own d) same ∙ found_other (moment w) c d e hs away;
    }

pub clock_ticks_for_each : ClockTicksForEach
clock_ticks_for_each limits rules w t c = found_ticked t c (connections limits rules w)

-- whether an admission is accepted shows in its reply
entered : (v : Bool) (n : ℕ) → plain (if v then reply.Entered else reply.Full n) ≡ plain reply.Entered → v ≡ true
entered true n e = refl
entered false n e = let same : reply.Full n ≡ reply.Entered = ap (λ (r : Replied). r.reply) e in cc

full : (v : Bool) (n m : ℕ) → plain (if v then reply.Entered else reply.Full n) ≡ plain (reply.Full m) → v ≡ false
full true n m e = let same : reply.Entered ≡ reply.Full m = ap (λ (r : Replied). r.reply) e in cc
full false n m e = refl

pub admissions_open_one : AdmissionsOpenOne
admissions_open_one limits rules w c replied =
    let hs = connections limits rules w in
    let new : History = record { number = c; entries = (moment w, opening) ∷ [] } in
    let same : connections limits rules (step.Admit c ∷ w) ≡ hs ++ new ∷ []
    = ap (λ (v : Bool). if v then hs ++ new ∷ [] else hs) (entered (admits limits rules hs) (counted limits rules hs) replied) in
    record {
      own = λ none. ap (find_own c) same ∙ found_last c new hs refl none;
      other = λ d away. ap (find_own d) same ∙ found_before d new hs (differs c d away);
    }
  where
    differs : (c d : ℕ) → d ≢ c → c == d ≡ false
    differs c d away =
        elim (c == d) as (λ v. c == d ≡ v → v ≡ false) [ true ↦ λ q. absurd (away (sym (eqb-true c d q))) | false ↦ λ q. refl ] refl

pub full_opens_none : FullOpensNone
full_opens_none limits rules w c n replied =
    let hs = connections limits rules w in
    let new : History = record { number = c; entries = (moment w, opening) ∷ [] } in
    ap (λ (v : Bool). if v then hs ++ new ∷ [] else hs) (full (admits limits rules hs) (counted limits rules hs) n replied)

-- ---- the trace and the replies

pub own_entries_decide : OwnEntriesDecide
own_entries_decide limits rules w v c same = record {
  trace = ap (option_map (trace_of limits rules)) same;
  replies = λ now e. ap (λ (o : Option (List (ℕ × Entry))). own_reply limits rules now o e) same;
}
