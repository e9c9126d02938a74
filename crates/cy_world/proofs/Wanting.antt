-- For which steps memory can be wanting.
use Rattle.std.proofs.Common.{◌≡◌, ◌≢◌, ℕ, ◌↔◌, Bool, List, length, Some, ap, ◌∙◌}
use Rattle.cy_event.specs.declared.steps.Step.{Step}
use Rattle.cy_event.specs.declared.steps.Step.TheVariants as step
use Rattle.cy_latch.specs.Numbers.{count_out}
use Rattle.cy_latch.specs.declared.book.Enter.{Enter}
use Rattle.cy_latch.specs.declared.book.Enter.TheVariants.{Entered, Full}
use Rattle.cy_world.specs.Worlds.{CanWantMemory, IsOwnOf, WorldParts, find_in}
use Rattle.cy_world.specs.declared.world.Admitted.TheVariants.{Seated}

-- for one of a connection that has a place
pub held_wants : (c : ℕ) (s : Step) (p : WorldParts) (i : ℕ) → IsOwnOf c s → find_in c p.book ≡ Some (Seated i) → CanWantMemory s p
held_wants c (step.At t) p i is booked = absurd is
held_wants c (step.Admit d) p i is booked = absurd is
held_wants c (step.On d e b) p i is booked = (i, ap (λ (n : ℕ). find_in n p.book) is ∙ booked)
held_wants c (step.Run d) p i is booked = (i, ap (λ (n : ℕ). find_in n p.book) is ∙ booked)
held_wants c (step.Act d a b) p i is booked = (i, ap (λ (n : ℕ). find_in n p.book) is ∙ booked)

-- a share isn't what is answered where all are counted
share_or_full : (share count : ℕ) → Entered share ≡ Full count → ⊥
share_or_full share count is = cc

-- for an admission that draws a share
pub share_wants : (share : ℕ) (shares : List Bool) → ((Entered share ≡ Full (length shares)) ↔ (count_out shares ≡ length shares)) → count_out shares ≢ length shares
share_wants share shares told all = share_or_full share (length shares) (told.1 all)
