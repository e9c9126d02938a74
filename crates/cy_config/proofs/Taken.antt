-- Where no key of a connector is refused, each setting may have the value that it has.
use Rattle.std.proofs.Common.{◌≡◌, ℕ, ◌≤◌, ℤ, pos, Bool, true, false, cond, ◌&&◌, eqb, leb, List, [], ◌∷◌, Option, Some, None, Ordering, Less, Equal, Greater, nat_cmp, refl, sym, ap, subst, ◌∙◌, inl, inr, arith}
use Rattle.std.specs.Prelude.{bytes_eq, negsuc}
use Rattle.std.proofs.lemmas.Bool.{and_parts, leb-true}
use Rattle.std.specs.Cmp.Lexicographic.{slice_cmp}
use Rattle.std.specs.List.{cons_option, filter_map}
use Rattle.std.specs.Option.{option_and_then, unwrap_or}
use Rattle.std.specs.Ordering.{is_eq, match_ordering}
use Rattle.std.proofs.lemmas.Map.Text.{is_eq-slice_cmp}
use Rattle.std.proofs.lemmas.Slice.Eq.{bytes_eq-Decides}
use Rattle.toml.specs.Data.{Data, string, integer, float, boolean, datetime, array, table, Members, no_members, member, get_member, as_integer}
use Rattle.cy_settings.specs.declared.limit.Limit.TheVariants.{MaxConnections, MaxHttpHeaderSize, MaxHeaderCount, MaxKeepAliveRequests, ConnectionTimeout, AsyncTimeout, MaxSwallowSize, MaxTrailerSize}
use Rattle.cy_settings.specs.declared.setting.Setting.{Setting}
use Rattle.cy_settings.specs.declared.setting.Setting.TheVariants.{Limit as OfLimit, MinSpareThreads, MaxThreads, Port}
use Rattle.cy_settings.specs.Settings.{AreInRange, can_be, can_be_unlimited, default_of, greatest_of, least_of, name_of, setting_named}
use Rattle.cy_settings.specs.Limits.{limits_of, number}
use Rattle.cy_config.specs.Kept.{AreThreads}
use Rattle.cy_config.specs.declared.fault.SetFault.{SetFault}
use Rattle.cy_config.specs.Members.{entries}
use Rattle.cy_config.specs.Meaning.{AreTaken, core_of, max_of, refused_as, refused_key, takes, value_at}

pub equal_keys : (k l : List ℕ) → slice_cmp nat_cmp k l ≡ Equal → k ≡ l
equal_keys k l h =
    let same : bytes_eq k l ≡ true = sym (is_eq-slice_cmp k l) ∙ ap is_eq h in
    grind (arith, bytes_eq-Decides k l)

none_first : (o : Option SetFault) (rest : List SetFault) → cons_option o rest ≡ [] → (o ≡ None) × (rest ≡ [])
none_first None rest h = (refl, h)
none_first (Some x) rest h = absurd cc

at_key : (o : Ordering) (k l : List ℕ) (d e : Data) (rest : Option Data) → (o ≡ Equal → k ≡ l) → refused_key (l, e) ≡ None → (rest ≡ Some d → refused_key (k, d) ≡ None)
    → match_ordering o rest (Some e) rest ≡ Some d → refused_key (k, d) ≡ None
at_key Less k l d e rest same here more h = more h
at_key Greater k l d e rest same here more h = more h
at_key Equal k l d e rest same here more h =
    let keys : l ≡ k = sym (same refl) in
    let values : e ≡ d = cc in
    subst (λ (x : Data). refused_key (k, x) ≡ None) values (subst (λ (x : List ℕ). refused_key (x, e) ≡ None) keys here)

-- what is found at a key is not refused
pub found_is_taken : (ms : Members) (k : List ℕ) (d : Data) → filter_map refused_key (entries ms) ≡ [] → get_member k ms ≡ Some d → refused_key (k, d) ≡ None
found_is_taken no_members k d none found = absurd cc
found_is_taken (member l e ms) k d none found =
    let parts = none_first (refused_key (l, e)) (filter_map refused_key (entries ms)) none in
    at_key (slice_cmp nat_cmp k l) k l d e (get_member k ms) (equal_keys k l) parts.0 (found_is_taken ms k d parts.1) found

-- a setting is found by its name
named : (setting : Setting) → setting_named (name_of setting) ≡ Some setting
named (OfLimit MaxConnections) = refl
named (OfLimit MaxHttpHeaderSize) = refl
named (OfLimit MaxHeaderCount) = refl
named (OfLimit MaxKeepAliveRequests) = refl
named (OfLimit ConnectionTimeout) = refl
named (OfLimit AsyncTimeout) = refl
named (OfLimit MaxSwallowSize) = refl
named (OfLimit MaxTrailerSize) = refl
named MinSpareThreads = refl
named MaxThreads = refl
named Port = refl

-- a default may be
default_is_taken : (setting : Setting) → can_be setting (pos (default_of setting)) ≡ true
default_is_taken (OfLimit MaxConnections) = refl
default_is_taken (OfLimit MaxHttpHeaderSize) = refl
default_is_taken (OfLimit MaxHeaderCount) = refl
default_is_taken (OfLimit MaxKeepAliveRequests) = refl
default_is_taken (OfLimit ConnectionTimeout) = refl
default_is_taken (OfLimit AsyncTimeout) = refl
default_is_taken (OfLimit MaxSwallowSize) = refl
default_is_taken (OfLimit MaxTrailerSize) = refl
default_is_taken MinSpareThreads = refl
default_is_taken MaxThreads = refl
default_is_taken Port = refl

not_refused : (t : Bool) (e : SetFault) → cond t None (Some e) ≡ None → t ≡ true
not_refused true e h = refl
not_refused false e h = absurd cc

taken_value : (setting : Setting) (d : Data) → takes setting d ≡ true → can_be setting (unwrap_or (as_integer d) (pos (default_of setting))) ≡ true
taken_value setting (integer z) h = h
taken_value setting (string s) h = absurd cc
taken_value setting (float x) h = absurd cc
taken_value setting (boolean b) h = absurd cc
taken_value setting (datetime t) h = absurd cc
taken_value setting (array ds) h = absurd cc
taken_value setting (table ms) h = absurd cc

taken_found : (setting : Setting) (o : Option Data) → ((d : Data) → o ≡ Some d → refused_key (name_of setting, d) ≡ None)
    → can_be setting (unwrap_or (option_and_then as_integer o) (pos (default_of setting))) ≡ true
taken_found setting None h = default_is_taken setting
taken_found setting (Some d) h =
    let fine : refused_as (name_of setting) d (Some setting) ≡ None = subst (λ (o : Option Setting). refused_as (name_of setting) d o ≡ None) (named setting) (h d refl) in
    taken_value setting d (not_refused (takes setting d) _ fine)

-- each setting may have the value that it has
pub all_taken : (ms : Members) → filter_map refused_key (entries ms) ≡ [] → AreTaken ms
all_taken ms none setting = taken_found setting (get_member (name_of setting) ms) (λ d found. found_is_taken ms (name_of setting) d none found)

-- ---- values as numbers

-- a value that is not -1 is its number
number_can_be : (setting : Setting) (z : ℤ) → can_be_unlimited setting ≡ false → can_be setting z ≡ true → can_be setting (pos (number z)) ≡ true
number_can_be setting (pos n) bounded h = h
number_can_be setting (negsuc n) bounded h =
    let none : (can_be_unlimited setting && eqb n 0) ≡ false = rw bounded refl in
    absurd cc

-- the number of a value is no greater than the greatest
pub number_small : (setting : Setting) (z : ℤ) → can_be setting z ≡ true → number z ≤ greatest_of setting
number_small setting (pos n) h = leb-true n (greatest_of setting) (and_parts (leb (least_of setting) n) (leb n (greatest_of setting)) h).1
number_small setting (negsuc n) h = omega arith

-- limits of values that may be are in range
pub limits_in_range : (ms : Members) (parts : ℕ) → AreTaken ms → AreInRange (limits_of (λ limit. value_at ms (OfLimit limit)) parts)
limits_in_range ms parts taken MaxConnections = number_can_be (OfLimit MaxConnections) (value_at ms (OfLimit MaxConnections)) refl (taken (OfLimit MaxConnections))
limits_in_range ms parts taken MaxHttpHeaderSize = number_can_be (OfLimit MaxHttpHeaderSize) (value_at ms (OfLimit MaxHttpHeaderSize)) refl (taken (OfLimit MaxHttpHeaderSize))
limits_in_range ms parts taken MaxHeaderCount = number_can_be (OfLimit MaxHeaderCount) (value_at ms (OfLimit MaxHeaderCount)) refl (taken (OfLimit MaxHeaderCount))
limits_in_range ms parts taken MaxKeepAliveRequests = taken (OfLimit MaxKeepAliveRequests)
limits_in_range ms parts taken ConnectionTimeout = number_can_be (OfLimit ConnectionTimeout) (value_at ms (OfLimit ConnectionTimeout)) refl (taken (OfLimit ConnectionTimeout))
limits_in_range ms parts taken AsyncTimeout = number_can_be (OfLimit AsyncTimeout) (value_at ms (OfLimit AsyncTimeout)) refl (taken (OfLimit AsyncTimeout))
limits_in_range ms parts taken MaxSwallowSize = number_can_be (OfLimit MaxSwallowSize) (value_at ms (OfLimit MaxSwallowSize)) refl (taken (OfLimit MaxSwallowSize))
limits_in_range ms parts taken MaxTrailerSize = number_can_be (OfLimit MaxTrailerSize) (value_at ms (OfLimit MaxTrailerSize)) refl (taken (OfLimit MaxTrailerSize))

-- so are its threads
pub threads_in_range : (ms : Members) → AreTaken ms → core_of ms ≤ max_of ms → AreThreads (core_of ms) (max_of ms)
threads_in_range ms taken ordered = record {
  least = number_can_be MinSpareThreads (value_at ms MinSpareThreads) refl (taken MinSpareThreads);
  most = number_can_be MaxThreads (value_at ms MaxThreads) refl (taken MaxThreads);
  ordered = ordered;
}
