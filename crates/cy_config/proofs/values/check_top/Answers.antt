-- What is left to show of `check_top`.
use Rattle.std.proofs.Common.{◌≡◌, ap, ◌∙◌, map, string_bytes, sym}
use Rattle.std.specs.List.{filter_map}
use Rattle.cy_config.specs.Meaning.{unknown_at_top}
use Rattle.cy_config.proofs.Refused.{keys-view}
use Rattle.cy_config.proofs.values.check_top.Goals as goal

pub loop-key-init : goal.loop-key-init
loop-key-init c =
    let all : c.into_iter-key-iterator.result ≡ _ = c.into_iter-key-iterator.ensures.into_iter_gives ∙ c.keys-key-items.ensures.rest in
    ap (filter_map unknown_at_top) (keys-view c.args.top.now.entries ∙ ap (map string_bytes) (sym all))
