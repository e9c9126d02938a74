-- Which path a target names and which rule serves a path, form by form, written down by hand.
use Rattle.std.proofs.Common.{◌≡◌, ℕ, Bool, true, false, List, [], ◌∷◌, Option, Some, None, codes, refl}
use Rattle.std.specs.Prelude.{map}
use Rattle.std.specs.Option.{option_map}
use Rattle.cy_event.specs.Targets.{PathAndQuery, target_of, targets_on_literals}
use Rattle.cy_map.specs.declared.rule.Rule.{Rule}
use Rattle.cy_map.specs.Mapping.{mapped}
use Rattle.cy_map.specs.Patterns.{exact_path, extension_name, extension_of, is_default, is_pattern, is_under, prefix_base}

-- ---- targets

abbrev path : List ℕ → Option (List ℕ)
path target = option_map (λ named. named.path) (target_of (codes "GET") target)

abbrev names : List ℕ → List ℕ → PathAndQuery
names path query = record { path = path; query = Some query }

-- the path alone
plain_paths : map path (codes "/" ∷ codes "/a/b" ∷ codes "/a/b/" ∷ codes "/%61%20" ∷ codes "/%ff" ∷ codes "/a:b@c"
    ∷ [])
    ≡ map Some (codes "/" ∷ codes "/a/b" ∷ codes "/a/b/" ∷ codes "/a " ∷ (47 ∷ 255 ∷ []) ∷ codes "/a:b@c" ∷ [])
unfolding targets_on_literals
plain_paths = refl

no_paths : map path
    (codes "a" ∷ codes "*" ∷ codes "?a" ∷ codes "/a#b" ∷ codes "/a\\b" ∷ codes "/?a#b" ∷ codes "/?a\\b"
    ∷ codes "ftp://h/"
    ∷ codes "http:/h" ∷ [])
    ≡ None ∷ None ∷ None ∷ None ∷ None ∷ None ∷ None ∷ None ∷ None ∷ []
unfolding targets_on_literals
no_paths = refl

-- an escape is two digits of a byte that is neither /, \ nor 0
no_escapes : map path
    (codes "/%" ∷ codes "/%4" ∷ codes "/%4g" ∷ codes "/%zz" ∷ codes "/%2f" ∷ codes "/%2F" ∷ codes "/%5c"
    ∷ codes "/%00" ∷ [])
    ≡ None ∷ None ∷ None ∷ None ∷ None ∷ None ∷ None ∷ None ∷ []
unfolding targets_on_literals
no_escapes = refl

-- what was decoded isn't read again
decoded_once : map path (codes "/%2541" ∷ codes "/%23%3F%3b" ∷ []) ≡ map Some (codes "/%41" ∷ codes "/#?;" ∷ [])
unfolding targets_on_literals
decoded_once = refl

-- parameters go first, with what stands in them
without_parameters : map path (codes "/a;b/c;d;e" ∷ codes "/;x/a" ∷ codes "/a;%zz" ∷ codes "/a;%00/b" ∷ codes "/..;x"
    ∷ [])
    ≡ Some (codes "/a/c") ∷ Some (codes "/a") ∷ Some (codes "/a") ∷ Some (codes "/a/b") ∷ None ∷ []
unfolding targets_on_literals
without_parameters = refl

-- empty segments and dots go, and two dots lead up; the last keeps its slash
dots : map path
    (codes "//a//b/" ∷ codes "/a/./b/../c" ∷ codes "/a/." ∷ codes "/a/.." ∷ codes "/a/b/.." ∷ codes "/a//.."
    ∷ codes "/..."
    ∷ codes "/a/%2e%2E/b" ∷ codes "/." ∷ codes "//" ∷ [])
    ≡ map Some
    (codes "/a/b/" ∷ codes "/a/c" ∷ codes "/a/" ∷ codes "/" ∷ codes "/a/" ∷ codes "/" ∷ codes "/..." ∷ codes "/b"
    ∷ codes "/"
    ∷ codes "/" ∷ [])
unfolding targets_on_literals
dots = refl

above_the_root : map path (codes "/.." ∷ codes "//../x" ∷ codes "/a/../.." ∷ codes "/a/../../b" ∷ codes "/./.." ∷ [])
    ≡ None ∷ None ∷ None ∷ None ∷ None ∷ []
unfolding targets_on_literals
above_the_root = refl

-- scheme and authority go, whatever they are
absolute_forms : map path
    (codes "http://h:1" ∷ codes "HTTPS://h/a" ∷ codes "http://h?q" ∷ codes "http:///a" ∷ codes "http://"
    ∷ codes "http://a#\\/b" ∷ [])
    ≡ map Some (codes "/" ∷ codes "/a" ∷ codes "/" ∷ codes "/a" ∷ codes "/" ∷ codes "/b" ∷ [])
unfolding targets_on_literals
absolute_forms = refl

-- the query is what follows the first question mark, as it stands
queries : map (target_of (codes "GET")) (codes "/a?b" ∷ codes "/?" ∷ codes "/a?b?c" ∷ codes "/a?%zz/../;"
    ∷ codes "http://h?q" ∷ [])
    ≡ map Some
    (names (codes "/a") (codes "b") ∷ names (codes "/") [] ∷ names (codes "/a") (codes "b?c")
    ∷ names (codes "/a") (codes "%zz/../;") ∷ names (codes "/") (codes "q") ∷ [])
unfolding targets_on_literals
queries = refl

all_at_once : target_of (codes "GET") (codes "/a%20b;p=1/c?q") ≡ Some (names (codes "/a b/c") (codes "q"))
unfolding targets_on_literals
all_at_once = refl

asterisk_of_options : target_of (codes "OPTIONS") (codes "*") ≡ Some (record { path = codes "*"; query = None })
unfolding targets_on_literals
asterisk_of_options = refl

asterisk_of_others : map (λ method. target_of method (codes "*")) (codes "GET" ∷ codes "options" ∷ codes "HEAD" ∷ [])
    ≡ None ∷ None ∷ None ∷ []
unfolding targets_on_literals
asterisk_of_others = refl

-- ---- patterns

abbrev forms : List ℕ → Bool × Option (List ℕ) × Option (List ℕ) × Option (List ℕ)
forms pattern = (is_default pattern, exact_path pattern, prefix_base pattern, extension_name pattern)

default_form : forms (codes "/") ≡ (true, None, None, None)
default_form = refl

exact_form : forms (codes "/a.b/") ≡ (false, Some (codes "/a.b/"), None, None)
exact_form = refl

prefix_form : forms (codes "/x/*") ≡ (false, None, Some (codes "/x"), None)
prefix_form = refl

prefix_of_all : forms (codes "/*") ≡ (false, None, Some [], None)
prefix_of_all = refl

extension_form : forms (codes "*.do") ≡ (false, None, None, Some (codes "do"))
extension_form = refl

right_patterns : map is_pattern
    (codes "/" ∷ codes "/a" ∷ codes "/a/" ∷ codes "//" ∷ codes "/*" ∷ codes "/x/*" ∷ codes "/x/y/*" ∷ codes "/x//*"
    ∷ codes "*.e" ∷ [])
    ≡ true ∷ true ∷ true ∷ true ∷ true ∷ true ∷ true ∷ true ∷ true ∷ []
right_patterns = refl

wrong_patterns : map is_pattern
    (codes "" ∷ codes "x" ∷ codes "x/*" ∷ codes "//*" ∷ codes "/*/*" ∷ codes "/a*" ∷ codes "/*a" ∷ codes "*"
    ∷ codes "*." ∷ codes "*.a.b"
    ∷ codes "*.a/b" ∷ codes "*.*" ∷ codes "/*.e" ∷ [])
    ≡ false ∷ false ∷ false ∷ false ∷ false ∷ false ∷ false ∷ false ∷ false ∷ false ∷ false ∷ false ∷ false ∷ []
wrong_patterns = refl

under_a_prefix : map (is_under (codes "/x")) (codes "/x" ∷ codes "/x/" ∷ codes "/x/y" ∷ codes "/xy" ∷ codes "/"
    ∷ codes "*" ∷ [])
    ≡ true ∷ true ∷ true ∷ false ∷ false ∷ false ∷ []
under_a_prefix = refl

under_all : map (is_under []) (codes "/" ∷ codes "/a" ∷ codes "*" ∷ [] ∷ []) ≡ true ∷ true ∷ false ∷ false ∷ []
under_all = refl

extensions : map extension_of (codes "/a.do" ∷ codes "/a.b.c" ∷ codes "/a.b/c" ∷ codes "/.do" ∷ codes "/a."
    ∷ codes "/a" ∷ [])
    ≡ Some (codes "do") ∷ Some (codes "c") ∷ None ∷ Some (codes "do") ∷ Some [] ∷ None ∷ []
extensions = refl

-- ---- the rule that is found: the exact one, the longest prefix, the extension, the default

abbrev rule : List ℕ → ℕ → Rule
rule pattern part = record { pattern = pattern; part = part; can_async = true }

abbrev part_by : List Rule → List ℕ → Option ℕ
part_by rules path = option_map (λ r. r.part) (mapped rules path)

abbrev five : List Rule
five =
    rule (codes "/a") 0 ∷ rule (codes "/x/*") 1 ∷ rule (codes "/x/y/*") 2 ∷ rule (codes "*.do") 3 ∷ rule (codes "/") 4
    ∷ []

found_parts : map (part_by five)
    (codes "/a" ∷ codes "/x" ∷ codes "/x/q.do" ∷ codes "/x/y/z" ∷ codes "/q.do" ∷ codes "/b" ∷ codes "*" ∷ [])
    ≡ map Some (0 ∷ 1 ∷ 1 ∷ 2 ∷ 3 ∷ 4 ∷ 4 ∷ [])
found_parts = refl

-- the root, a slash behind an exact path, a prefix with more and without its slash, a dot in another segment
further_parts : map (part_by five)
    (codes "/" ∷ codes "/a/" ∷ codes "/x/y" ∷ codes "/x/yz" ∷ codes "/xy" ∷ codes "/q.do/z" ∷ codes "/q.DO"
    ∷ codes "/z/q.a.do" ∷ [])
    ≡ map Some (4 ∷ 4 ∷ 2 ∷ 1 ∷ 4 ∷ 4 ∷ 4 ∷ 3 ∷ [])
further_parts = refl

-- the order of the rules doesn't count
in_another_order : map (part_by (rule (codes "/*") 7 ∷ rule (codes "/") 8 ∷ rule (codes "/x/*") 1
    ∷ rule (codes "/x") 9 ∷ []))
    (codes "/x" ∷ codes "/x/" ∷ codes "/y" ∷ codes "/" ∷ codes "*" ∷ [])
    ≡ map Some (9 ∷ 1 ∷ 7 ∷ 7 ∷ 8 ∷ [])
in_another_order = refl

none_is_found : map (part_by (rule (codes "/x/*") 0 ∷ rule (codes "*.do") 1 ∷ [])) (codes "/" ∷ codes "/xy"
    ∷ codes "*" ∷ [])
    ≡ None ∷ None ∷ None ∷ []
none_is_found = refl
