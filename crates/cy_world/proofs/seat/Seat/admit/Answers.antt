-- What is left to show of `Seat::admit`: the connection is opened, and what it writes is all that is written.
use Rattle.std.proofs.Common.{◌≡◌, ◌++◌, [], List, ℕ, ap, sym, ◌∙◌, subst, drop}
use Rattle.cy_model.specs.Entries.{after, opening}
use Rattle.cy_proc.specs.Processors.{is_over_at}
use Rattle.cy_world.specs.Answered.{Keeps, SeatParts, parts_with, start}
use Rattle.cy_world.specs.Places.{CountsHeads, IsInItsSlot, LiveParts, Lives, PlaceParts, heads_of, visits_of}
use Rattle.cy_world.proofs.Keeping.{open_keeps}
use Rattle.cy_world.proofs.Visits.{counts_same, counts_then}
use Rattle.cy_world.proofs.seat.Seat.admit.Goals as goal

pub returns-clause-keeps : goal.returns-clause-keeps
returns-clause-keeps c =
    let was : c.admit.new.self.live ≡ c.args.self.now.place.live =
    ap (λ (p : PlaceParts). p.live) c.admit.ensures.admitted ∙ ap (λ (s : SeatParts). s.place.live) c.self.view_is in
    let vacant = c.requires.vacant in
    let written : c.of.result ≡ [] ++ drop c.unsent_len-first.result c.settle.new.self.live.line.unsent =
    c.of.ensures ∙ c.push_unsent.ensures.pushed ∙ ap (λ (u : List ℕ). u ++ drop c.unsent_len-first.result c.settle.new.self.live.line.unsent) c.requires.empty in
    subst (λ (p : PlaceParts). Keeps c.args.terms.now (after c.args.terms.now.limits c.args.terms.now.rules start [] opening) (parts_with p c.of.result)) (sym c.push_unsent.ensures.same)
    (open_keeps c.args.terms.now c.admit.new.self.live c.settle.new.self.live c.of.result
    (subst (Lives _) (sym was) vacant.lives)
    (ap (λ (p : LiveParts). p.limits) was ∙ vacant.limits)
    (ap (λ (p : LiveParts). p.line.moment) was ∙ vacant.moment)
    (ap (λ (p : LiveParts). is_over_at p.processor.stage) was ∙ vacant.kept)
    c.settle.ensures.settles c.settle.ensures.keeps
    (written ∙ ap (λ (n : ℕ). [] ++ drop n c.settle.new.self.live.line.unsent) c.unsent_len-first.ensures.count))

pub returns-clause-counts : goal.returns-clause-counts
returns-clause-counts c =
    subst (CountsHeads c.args.self.now.place) (sym c.push_unsent.ensures.same)
    (counts_then c.args.self.now.place c.admit.new.self c.settle.new.self
    (counts_same c.args.self.now.place c.admit.new.self
    (ap (λ (p : PlaceParts). visits_of p.slot) c.admit.ensures.admitted ∙ ap (λ (s : SeatParts). visits_of s.place.slot) c.self.view_is)
    (ap (λ (p : PlaceParts). heads_of p.live.line) c.admit.ensures.admitted ∙ ap (λ (s : SeatParts). heads_of s.place.live.line) c.self.view_is))
    c.settle.ensures.counts)

pub returns-clause-slot : goal.returns-clause-slot
returns-clause-slot c = subst IsInItsSlot (sym c.push_unsent.ensures.same) c.settle.ensures.slot
