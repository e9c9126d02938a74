-- What a mapper keeps of its rules.
use Rattle.std.specs.Prelude.{◌≡◌, position}
use Rattle.cy_map.specs.declared.mapper.Mapper.TheInside.{Inside}
use Rattle.cy_map.specs.declared.index.Form.TheVariants.{Exact, Prefix, Extension}
use Rattle.cy_map.specs.Mapping.{is_default_rule}
use Rattle.cy_map.specs.Indexes.{IsIndexOf, AreBasesWithin}

-- each index is that of the rules of its form, and the default is the place of the first default
pub record IsIndexed (m : Inside) : Type 0 where
  pub exact : IsIndexOf Exact m.rules.items m.exact
  pub prefixes : IsIndexOf Prefix m.rules.items m.prefixes
  pub extensions : IsIndexOf Extension m.rules.items m.extensions
  pub default : m.default ≡ position is_default_rule m.rules.items
  pub bases : AreBasesWithin m.rules.items m.longest_base
