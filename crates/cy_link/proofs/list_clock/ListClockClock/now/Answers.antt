-- What is left to show of `ListClockClock::now`.
use Rattle.std.proofs.Common.{rules}
use Rattle.cy_link.proofs.Moments.{tells_more}
use Rattle.cy_link.proofs.list_clock.ListClockClock.now.Goals as goal

pub returns-clause-tells : goal.returns-clause-tells
returns-clause-tells c = tells_more _ c.args.self.now.moments.items c.args.self.now.calls c.saturating_add-self.result c.unwrap_or.result c.saturating_add-self.ensures (search rules)
