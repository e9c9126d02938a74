-- What stands in a table of TOML, and the words for its values in a refusal.
use Rattle.std.specs.Prelude.{ℕ, ℤ, Bool, true, false, ◌||◌, List, [], ◌∷◌, ◌++◌, codes, bytes_eq, option_map}
use Rattle.std.specs.Fmt.{decimal, signed_decimal}
use Rattle.toml.specs.Data.{Data, string, integer, float, boolean, datetime, array, table, Items, no_items, item, Members, no_members, member}

-- keys with their values, in the order of the keys
abbrev pub entries : Members → List (List ℕ × Data)
entries no_members = []
entries (member key value rest) = (key, value) ∷ entries rest

-- the keys alone
abbrev pub keys : Members → List (List ℕ)
keys no_members = []
keys (member key value rest) = key ∷ keys rest

-- the elements of an array
abbrev pub elements : Items → List Data
elements no_items = []
elements (item value rest) = value ∷ elements rest

-- the members of a table; anything else has none
abbrev pub members_in : Data → Members
members_in (table ms) = ms
members_in _ = no_members

abbrev pub is_table : Data → Bool
is_table (table ms) = true
is_table _ = false

abbrev pub is_text : Data → Bool
is_text (string text) = true
is_text _ = false

abbrev pub is_flag : Data → Bool
is_flag (boolean flag) = true
is_flag _ = false

-- how a value is told in a refusal: a whole number by its digits, anything else by its kind
abbrev pub value_word : Data → List ℕ
value_word (integer number) = signed_decimal number
value_word (string text) = codes "text"
value_word (boolean flag) = codes "flag"
value_word (float number) = codes "float"
value_word (datetime moment) = codes "date"
value_word (array items) = codes "list"
value_word (table ms) = codes "table"

-- ---- keys

abbrev pub connector : List ℕ
connector = codes "connector"

abbrev pub rule : List ℕ
rule = codes "rule"

abbrev pub pattern : List ℕ
pattern = codes "pattern"

abbrev pub part : List ℕ
part = codes "part"

abbrev pub async : List ℕ
async = codes "async"

abbrev pub is_top_key : List ℕ → Bool
is_top_key key = bytes_eq key connector || bytes_eq key rule

abbrev pub is_rule_key : List ℕ → Bool
is_rule_key key = bytes_eq key pattern || (bytes_eq key part || bytes_eq key async)

-- how a key of the connector, and one of the rule of this number, is told
abbrev pub in_connector : List ℕ → List ℕ
in_connector key = codes "connector." ++ key

abbrev pub in_rule : ℕ → List ℕ → List ℕ
in_rule number key = codes "rule." ++ (decimal number ++ (codes "." ++ key))
