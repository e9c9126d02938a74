-- What is left to show of `check_keys`.
use Rattle.std.proofs.Common.{◌≡◌, ap, ◌∙◌, map, string_bytes, sym}
use Rattle.std.specs.List.{filter_map}
use Rattle.cy_config.specs.Meaning.{unknown_in_rule}
use Rattle.cy_config.proofs.Refused.{keys-view}
use Rattle.cy_config.proofs.rules.check_keys.Goals as goal

pub loop-key-init : goal.loop-key-init
loop-key-init c =
    let all : c.into_iter-key-iterator.result ≡ _ = c.into_iter-key-iterator.ensures.into_iter_gives ∙ c.keys-key-items.ensures.rest in
    ap (filter_map (unknown_in_rule c.args.number)) (keys-view c.args.table.now.entries ∙ ap (map string_bytes) (sym all))
