-- What is left to show of `retire_if_gone`.
use Rattle.std.proofs.Common.{◌≡◌, ℕ, Option, Some, option_map, sym, ap, ◌∙◌}
use Rattle.cy_latch.specs.Numbers.{after_leave}
use Rattle.cy_slot.specs.Reaching.{Who}
use Rattle.cy_world.proofs.Retiring.{when_gone}
use Rattle.cy_world.proofs.Stepping.{some}
use Rattle.cy_world.proofs.world.retire_if_gone.Goals as goal

-- the share that is left is that of who leaves
share_is : (o : Option Who) (w : Who) (share : ℕ) → o ≡ Some w → option_map (λ (v : Who). v.share) o ≡ Some share → share ≡ w.share
share_is o w share who is = some share w.share (sym is ∙ ap (option_map (λ (v : Who). v.share)) who)

pub returns : goal.returns
returns c T lives =
    when_gone _ _ _ (sym (c.is_gone.ensures.gone T lives) ∙ c.if-not-is_gone.false) (record {
      account = c.leave-share.result.1;
      tells = c.leave-share.ensures.tells;
      vacant = c.leave-share.ensures.vacant;
      visits = c.leave-share.ensures.visits;
      left = λ w who. c.leave.ensures ∙ ap (after_leave c.args.latch.now) (share_is c.args.seat.now.place.who w c.leave-share.result.0 who c.leave-share.ensures.share);
      put_down = c.in-Ok.ensures.updates.0;
    })
