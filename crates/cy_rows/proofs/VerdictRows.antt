-- What is done with a head, in the order of its refusals, and what its fields say of the connection and of
-- `100 Continue`, written down by hand.
use Rattle.std.proofs.Common.{◌≡◌, ℕ, Bool, true, false, List, [], ◌∷◌, Ok, Err, Result, codes, refl}
use Rattle.std.specs.Prelude.{map}
use Rattle.cy_event.specs.declared.framing.Framing.{Framing}
use Rattle.cy_event.specs.declared.framing.Framing.TheVariants as framing
use Rattle.cy_event.specs.Framings.{Framed, framed, framings_on_literals}
use Rattle.cy_event.specs.Heads.{Field}
use Rattle.cy_event.specs.Targets.{targets_on_literals}
use Rattle.cy_map.specs.declared.rule.Rule.{Rule}
use Rattle.cy_model.specs.Verdicts.{Verdict, served, turned_away, unserved, verdict_of}

-- ---- heads and what they are refused for

abbrev field : List ℕ → List ℕ → Field
field name value = record { name = name; value = value }

abbrev the_rule : Rule
the_rule = record { pattern = codes "/"; part = 4; can_async = true }

-- where the default rule serves each path, and where no rule serves any
abbrev verdict : List ℕ → List ℕ → ℕ → List Field → Verdict
verdict method target minor fields =
    verdict_of (the_rule ∷ []) (record { method = method; target = target; minor = minor; fields = fields })

abbrev without_rules : List ℕ → List ℕ → ℕ → List Field → Verdict
without_rules method target minor fields =
    verdict_of [] (record { method = method; target = target; minor = minor; fields = fields })

abbrev host : Field
host = field (codes "Host") (codes "a")

abbrev plain : List Field
plain = host ∷ []

-- a length and a coding, which no request has both
abbrev bad_framing : List Field
bad_framing = field (codes "Content-Length") (codes "1") ∷ field (codes "Transfer-Encoding") (codes "chunked") ∷ plain

-- a coding that isn't built
abbrev other_coding : List Field
other_coding = field (codes "Transfer-Encoding") (codes "gzip, chunked") ∷ plain

abbrev other_expectation : List Field → List Field
other_expectation fields = field (codes "Expect") (codes "a-cake") ∷ fields

abbrev of_length : List ℕ → List Field
of_length n = field (codes "Content-Length") n ∷ plain

abbrev in_chunks : List Field
in_chunks = field (codes "Transfer-Encoding") (codes "chunked") ∷ plain

-- no body, kept, and no `100 Continue`
abbrev simply : Framed
simply = record { body = framing.None; keep = true; go_on = false }

-- ---- a tunnel stands before all others

tunnel : verdict (codes "CONNECT") (codes "/") 1 plain ≡ turned_away 501
unfolding verdict_of framings_on_literals targets_on_literals
tunnel = refl

tunnel_before_target : verdict (codes "CONNECT") (codes "a:1") 1 plain ≡ turned_away 501
unfolding verdict_of framings_on_literals targets_on_literals
tunnel_before_target = refl

tunnel_before_framing : verdict (codes "CONNECT") (codes "/") 1 bad_framing ≡ turned_away 501
unfolding verdict_of framings_on_literals targets_on_literals
tunnel_before_framing = refl

tunnel_before_expectation : verdict (codes "CONNECT") (codes "/") 1 (other_expectation plain) ≡ turned_away 501
unfolding verdict_of framings_on_literals targets_on_literals
tunnel_before_expectation = refl

tunnel_before_not_found : without_rules (codes "CONNECT") (codes "/") 1 plain ≡ turned_away 501
unfolding verdict_of framings_on_literals targets_on_literals
tunnel_before_not_found = refl

-- the method is written in capitals
no_tunnel : verdict (codes "connect") (codes "/") 1 plain ≡ served the_rule simply
unfolding verdict_of framings_on_literals targets_on_literals
no_tunnel = refl

-- ---- then a bad target

target : verdict (codes "GET") (codes "a") 1 plain ≡ turned_away 400
unfolding verdict_of framings_on_literals targets_on_literals
target = refl

target_before_framing : verdict (codes "GET") (codes "/..") 1 other_coding ≡ turned_away 400
unfolding verdict_of framings_on_literals targets_on_literals
target_before_framing = refl

target_before_expectation : verdict (codes "GET") (codes "/%zz") 1 (other_expectation plain) ≡ turned_away 400
unfolding verdict_of framings_on_literals targets_on_literals
target_before_expectation = refl

target_before_body : verdict (codes "POST") (codes "/%00") 1 in_chunks ≡ turned_away 400
unfolding verdict_of framings_on_literals targets_on_literals
target_before_body = refl

target_before_method : verdict (codes "HEAD") (codes "/%2f") 1 plain ≡ turned_away 400
unfolding verdict_of framings_on_literals targets_on_literals
target_before_method = refl

target_before_not_found : without_rules (codes "GET") (codes "/a#b") 1 plain ≡ turned_away 400
unfolding verdict_of framings_on_literals targets_on_literals
target_before_not_found = refl

-- ---- then the framing of the body

framing_is_bad : verdict (codes "POST") (codes "/") 1 bad_framing ≡ turned_away 400
unfolding verdict_of framings_on_literals targets_on_literals
framing_is_bad = refl

framing_is_unknown : verdict (codes "POST") (codes "/") 1 other_coding ≡ turned_away 501
unfolding verdict_of framings_on_literals targets_on_literals
framing_is_unknown = refl

bad_framing_before_expectation : verdict (codes "POST") (codes "/") 1 (other_expectation bad_framing)
    ≡ turned_away 400
unfolding verdict_of framings_on_literals targets_on_literals
bad_framing_before_expectation = refl

other_coding_before_expectation : verdict (codes "POST") (codes "/") 1 (other_expectation other_coding)
    ≡ turned_away 501
unfolding verdict_of framings_on_literals targets_on_literals
other_coding_before_expectation = refl

bad_framing_before_method : verdict (codes "HEAD") (codes "/") 1 bad_framing ≡ turned_away 400
unfolding verdict_of framings_on_literals targets_on_literals
bad_framing_before_method = refl

bad_framing_before_not_found : without_rules (codes "POST") (codes "/") 1 bad_framing ≡ turned_away 400
unfolding verdict_of framings_on_literals targets_on_literals
bad_framing_before_not_found = refl

other_coding_before_not_found : without_rules (codes "POST") (codes "/") 1 other_coding ≡ turned_away 501
unfolding verdict_of framings_on_literals targets_on_literals
other_coding_before_not_found = refl

-- ---- then an expectation that isn't met

expectation : verdict (codes "GET") (codes "/") 1 (other_expectation plain) ≡ turned_away 417
unfolding verdict_of framings_on_literals targets_on_literals
expectation = refl

expectation_before_body : verdict (codes "POST") (codes "/") 1 (other_expectation in_chunks) ≡ turned_away 417
unfolding verdict_of framings_on_literals targets_on_literals
expectation_before_body = refl

expectation_before_method : verdict (codes "HEAD") (codes "/") 1 (other_expectation plain) ≡ turned_away 417
unfolding verdict_of framings_on_literals targets_on_literals
expectation_before_method = refl

expectation_before_not_found : without_rules (codes "GET") (codes "/") 1 (other_expectation plain) ≡ turned_away 417
unfolding verdict_of framings_on_literals targets_on_literals
expectation_before_not_found = refl

-- ---- then what isn't served so far: the method HEAD, with a body or without

head_isnt_served : verdict (codes "HEAD") (codes "/") 1 plain ≡ turned_away 501
unfolding verdict_of framings_on_literals targets_on_literals
head_isnt_served = refl

head_with_a_body : verdict (codes "HEAD") (codes "/") 1 in_chunks ≡ turned_away 501
unfolding verdict_of framings_on_literals targets_on_literals
head_with_a_body = refl

method_before_not_found : without_rules (codes "HEAD") (codes "/") 1 plain ≡ turned_away 501
unfolding verdict_of framings_on_literals targets_on_literals
method_before_not_found = refl

-- ---- at last the rules

not_found_at_last : without_rules (codes "GET") (codes "/") 1 plain ≡ unserved simply
unfolding verdict_of framings_on_literals targets_on_literals
not_found_at_last = refl

served_at_last : verdict (codes "POST") (codes "/x?y") 1 plain ≡ served the_rule simply
unfolding verdict_of framings_on_literals targets_on_literals
served_at_last = refl

-- with the framing of the body, whether a rule serves the path or none does
abbrev framed_as : Framing → Framed
framed_as body = record simply { body = body }

a_length_is_served : map (λ n. verdict (codes "POST") (codes "/") 1 (of_length n)) (codes "3" ∷ codes "0" ∷ [])
    ≡ served the_rule (framed_as (framing.Length 3)) ∷ served the_rule (framed_as (framing.Length 0)) ∷ []
unfolding verdict_of framings_on_literals targets_on_literals
a_length_is_served = refl

chunks_are_served : verdict (codes "POST") (codes "/") 1 in_chunks ≡ served the_rule (framed_as framing.Chunked)
unfolding verdict_of framings_on_literals targets_on_literals
chunks_are_served = refl

-- of any method but HEAD, and in HTTP/1.0 too
a_body_of_get : verdict (codes "GET") (codes "/") 0 (of_length (codes "3"))
    ≡ served the_rule (record { body = framing.Length 3; keep = false; go_on = false })
unfolding verdict_of framings_on_literals targets_on_literals
a_body_of_get = refl

chunks_not_found : without_rules (codes "POST") (codes "/") 1 in_chunks ≡ unserved (framed_as framing.Chunked)
unfolding verdict_of framings_on_literals targets_on_literals
chunks_not_found = refl

a_length_not_found : without_rules (codes "POST") (codes "/") 1 (of_length (codes "3"))
    ≡ unserved (framed_as (framing.Length 3))
unfolding verdict_of framings_on_literals targets_on_literals
a_length_not_found = refl

-- HTTP/1.0 expects nothing, and has no codings
old_expectation : verdict (codes "GET") (codes "/") 0 (other_expectation plain)
    ≡ served the_rule (record { body = framing.None; keep = false; go_on = false })
unfolding verdict_of framings_on_literals targets_on_literals
old_expectation = refl

old_coding : verdict (codes "POST") (codes "/") 0 in_chunks ≡ turned_away 400
unfolding verdict_of framings_on_literals targets_on_literals
old_coding = refl

-- ---- whether the connection is kept

abbrev with_options : List (List ℕ) → List Field
with_options values = map (field (codes "Connection")) values

abbrev kept : Framing → Bool → Result Framed ℕ
kept body keep = Ok (record { body = body; keep = keep; go_on = false })

kept_of_1_1 : map (λ values. framed 1 (with_options values))
    ([] ∷ (codes "keep-alive" ∷ []) ∷ (codes "upgrade" ∷ []) ∷ ([] ∷ []) ∷ [])
    ≡ map (kept framing.None) (true ∷ true ∷ true ∷ true ∷ [])
unfolding framings_on_literals
kept_of_1_1 = refl

closed_of_1_1 : map (λ values. framed 1 (with_options values))
    ((codes "close" ∷ []) ∷ (codes "keep-alive, Close" ∷ []) ∷ (codes "close" ∷ codes "keep-alive" ∷ []) ∷ [])
    ≡ map (kept framing.None) (false ∷ false ∷ false ∷ [])
unfolding framings_on_literals
closed_of_1_1 = refl

kept_of_1_0 : map (λ values. framed 0 (with_options values))
    ((codes "keep-alive" ∷ []) ∷ (codes "x ,Keep-Alive" ∷ []) ∷ (codes "x" ∷ codes "keep-alive" ∷ []) ∷ [])
    ≡ map (kept framing.None) (true ∷ true ∷ true ∷ [])
unfolding framings_on_literals
kept_of_1_0 = refl

closed_of_1_0 : map (λ values. framed 0 (with_options values))
    ([] ∷ (codes "close" ∷ []) ∷ (codes "upgrade" ∷ []) ∷ (codes "keep-alive, close" ∷ [])
    ∷ (codes "keep alive" ∷ []) ∷ [])
    ≡ map (kept framing.None) (false ∷ false ∷ false ∷ false ∷ false ∷ [])
unfolding framings_on_literals
closed_of_1_0 = refl

-- ---- when `100 Continue` is due

abbrev waits : List ℕ → List Field → List Field
waits value fields = field (codes "Expect") value ∷ fields

abbrev goes_on : Framing → Bool → Result Framed ℕ
goes_on body go_on = Ok (record { body = body; keep = true; go_on = go_on })

due_for_a_length : framed 1 (waits (codes "100-continue") (of_length (codes "2")))
    ≡ goes_on (framing.Length 2) true
unfolding framings_on_literals
due_for_a_length = refl

due_for_chunks : framed 1 (waits (codes "100-Continue, 100-continue") in_chunks) ≡ goes_on framing.Chunked true
unfolding framings_on_literals
due_for_chunks = refl

not_due_for_length_0 : framed 1 (waits (codes "100-continue") (of_length (codes "0")))
    ≡ goes_on (framing.Length 0) false
unfolding framings_on_literals
not_due_for_length_0 = refl

not_due_without_a_body : framed 1 (waits (codes "100-continue") plain) ≡ goes_on framing.None false
unfolding framings_on_literals
not_due_without_a_body = refl

not_due_without_an_expectation : framed 1 in_chunks ≡ goes_on framing.Chunked false
unfolding framings_on_literals
not_due_without_an_expectation = refl

-- an empty list of expectations is no expectation
not_due_for_an_empty_list : framed 1 (waits (codes " , ") in_chunks) ≡ goes_on framing.Chunked false
unfolding framings_on_literals
not_due_for_an_empty_list = refl

not_due_in_1_0 : framed 0 (waits (codes "100-continue") (of_length (codes "2"))) ≡ kept (framing.Length 2) false
unfolding framings_on_literals
not_due_in_1_0 = refl

one_other_expectation : framed 1 (waits (codes "100-continue, x") in_chunks) ≡ Err 417
unfolding framings_on_literals
one_other_expectation = refl
