-- Heads that are found, awaited and refused, as they compute.
use Rattle.std.proofs.Common.{◌≡◌, ℕ, ◌++◌, List, [], ◌∷◌, codes, refl, replicate}
use Rattle.cy_event.specs.Heads.{Head, awaited, found, malformed, head_of, heads_on_literals}

-- the head of these parts with one field, `Host: a`
abbrev of_one_host : List ℕ → List ℕ → Head
of_one_host method target = record {
  method = method;
  target = target;
  minor = 1;
  fields = record { name = codes "Host"; value = codes "a" } ∷ [];
}

-- 27 bytes
pub whole_is_found : head_of 8192 100 (codes "GET / HTTP/1.1\r\nHost: a\r\n\r\n") ≡ found 27 (of_one_host (codes "GET") (codes "/"))
unfolding heads_on_literals
whole_is_found = refl

-- what follows the front doesn't count
pub next_is_left : head_of 8192 100 (codes "\nGET / HTTP/1.1\nHost:\ta \n\nGET") ≡ found 26 (of_one_host (codes "GET") (codes "/"))
unfolding heads_on_literals
next_is_left = refl

-- the last LF hasn't come
pub cut_is_awaited : head_of 8192 100 (codes "GET / HTTP/1.1\r\nHost: a\r\n\r") ≡ awaited
unfolding heads_on_literals
cut_is_awaited = refl

-- HTTP/1.1 needs a Host
pub no_host_is_malformed : head_of 8192 100 (codes "GET / HTTP/1.1\r\n\r\n") ≡ malformed
unfolding heads_on_literals
no_host_is_malformed = refl

-- a head of 1,032 bytes
pub long_is_found : head_of 1032 1 (codes "GET /" ++ (replicate 1005 97 ++ codes " HTTP/1.1\r\nHost: a\r\n\r\n")) ≡ found 1032 (of_one_host (codes "GET") (47 ∷ replicate 1005 97))
unfolding heads_on_literals
long_is_found = refl

-- the same where a head has at most 1,031
pub longer_is_malformed : head_of 1031 1 (codes "GET /" ++ (replicate 1005 97 ++ codes " HTTP/1.1\r\nHost: a\r\n\r\n")) ≡ malformed
unfolding heads_on_literals
longer_is_malformed = refl

-- as many bytes as a head may have, and no empty line
pub endless_is_malformed : head_of 8192 100 (replicate 8193 97) ≡ malformed
unfolding heads_on_literals
endless_is_malformed = refl
