-- What targets name and how they are refused, as it computes.
use Rattle.std.proofs.Common.{◌≡◌, Option, Some, None, List, ℕ, codes, refl}
use Rattle.cy_event.specs.Targets.{PathAndQuery, target_of, targets_on_literals}

abbrev path_alone : List ℕ → Option PathAndQuery
path_alone path = Some (record { path = path; query = None })

pub all_rules_at_once : target_of (codes "GET") (codes "/a%20b;p=1/c?q") ≡ Some (record { path = codes "/a b/c"; query = Some (codes "q") })
unfolding targets_on_literals
all_rules_at_once = refl

pub dots_are_resolved : target_of (codes "GET") (codes "/a/./b/../c") ≡ path_alone (codes "/a/c")
unfolding targets_on_literals
dots_are_resolved = refl

pub empty_segments_go : target_of (codes "GET") (codes "//a//b/") ≡ path_alone (codes "/a/b/")
unfolding targets_on_literals
empty_segments_go = refl

pub authority_goes : target_of (codes "GET") (codes "hTTp://h:1") ≡ path_alone (codes "/")
unfolding targets_on_literals
authority_goes = refl

pub query_behind_authority : target_of (codes "GET") (codes "https://h?%zz") ≡ Some (record { path = codes "/"; query = Some (codes "%zz") })
unfolding targets_on_literals
query_behind_authority = refl

pub above_the_root : target_of (codes "GET") (codes "//../x") ≡ None
unfolding targets_on_literals
above_the_root = refl

pub escaped_dots_lead_up : target_of (codes "GET") (codes "/a//%2e%2E") ≡ path_alone (codes "/")
unfolding targets_on_literals
escaped_dots_lead_up = refl

pub escaped_slash : target_of (codes "GET") (codes "/%2f") ≡ None
unfolding targets_on_literals
escaped_slash = refl

pub no_escape_in_parameters : target_of (codes "GET") (codes "/a;%zz") ≡ path_alone (codes "/a")
unfolding targets_on_literals
no_escape_in_parameters = refl

pub asterisk : target_of (codes "OPTIONS") (codes "*") ≡ path_alone (codes "*")
unfolding targets_on_literals
asterisk = refl

pub asterisk_of_get : target_of (codes "GET") (codes "*") ≡ None
unfolding targets_on_literals
asterisk_of_get = refl
