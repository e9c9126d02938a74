-- What follows from a head that is refused, not found or served: what is kept of it, what is written for it, and the
-- marks that it makes as it comes. Written down by hand.
use Rattle.std.proofs.Common.{◌≡◌, ℕ, Bool, true, false, List, [], ◌∷◌, ◌++◌, Some, None, codes, length, refl}
use Rattle.std.specs.Prelude.{⊤, map, pos, negsuc}
use Rattle.std.specs.Fmt.{digits}
use Rattle.cy_event.specs.declared.framing.Framing.TheVariants as framing
use Rattle.cy_event.specs.declared.steps.CloseCause.TheVariants as cause
use Rattle.cy_event.specs.Answers.{head_text, refusal_text}
use Rattle.cy_event.specs.Bodies.{bodies_on_literals}
use Rattle.cy_event.specs.Dates.{count_off, date_at}
use Rattle.cy_event.specs.Framings.{Framed, framings_on_literals}
use Rattle.cy_event.specs.Heads.{Head, heads_on_literals}
use Rattle.cy_event.specs.Limits.{standard}
use Rattle.cy_event.specs.Targets.{targets_on_literals}
use Rattle.cy_map.specs.declared.rule.Rule.{Rule}
use Rattle.cy_model.specs.Folds.{begun_count, cause_of, is_open, is_refused, request_of}
use Rattle.cy_model.specs.Marks.{TakenUp, Trace, began, came, caused, error_answer, opened, over, refused}
use Rattle.cy_model.specs.Outputs.{output}
use Rattle.cy_model.specs.Settling.{due_by_verdict, due_move, is_last_number, not_found, refusal, request, settled}
use Rattle.cy_model.specs.Settling.{taken_up_by}
use Rattle.cy_model.specs.Verdicts.{served, turned_away, unserved, verdict_of}

-- what these rows unfold to settle bytes
unfoldable words_on_literals : ⊤
unfolding settled verdict_of framings_on_literals targets_on_literals heads_on_literals
words_on_literals = tt

abbrev the_rule : Rule
the_rule = record { pattern = codes "/"; part = 4; can_async = true }

-- no body, kept, and no `100 Continue`
abbrev simply : Framed
simply = record { body = framing.None; keep = true; go_on = false }

abbrev get : Head
get = record {
  method = codes "GET";
  target = codes "/";
  minor = 1;
  fields = record { name = codes "Host"; value = codes "a" } ∷ [];
}

-- ---- the last request of a connection

last_numbers : map (is_last_number (pos 1)) (1 ∷ 2 ∷ []) ≡ true ∷ false ∷ []
last_numbers = refl

last_of_100 : map (is_last_number (pos 100)) (1 ∷ 99 ∷ 100 ∷ 101 ∷ []) ≡ false ∷ false ∷ true ∷ false ∷ []
last_of_100 = refl

-- -1 for any number
no_last_number : map (is_last_number (negsuc 0)) (0 ∷ 1 ∷ 2 ∷ 1000000 ∷ []) ≡ false ∷ false ∷ false ∷ false ∷ []
no_last_number = refl

abbrev keeps_at : ℕ → Bool → Bool
keeps_at number keep = (taken_up_by (standard 5) 0 number 27 get (record simply { keep = keep }) 4 true).keep

last_isnt_kept : keeps_at 99 true ∷ keeps_at 99 false ∷ keeps_at 100 true ∷ [] ≡ true ∷ false ∷ false ∷ []
last_isnt_kept = refl

-- no `100 Continue` before a 404
abbrev waiting : Framed
waiting = record { body = framing.Length 2; keep = true; go_on = true }

no_continue_for_not_found : due_by_verdict (standard 5) 7 1 27 get (unserved waiting)
    ≡ not_found (record {
      place = 7;
      size = 27;
      head = get;
      framing = framing.Length 2;
      max_trailer = 8192;
      async_timeout = 30000;
      part = 0;
      can_async = false;
      keep = true;
      go_on = false;
    })
no_continue_for_not_found = refl

continue_for_a_service : due_by_verdict (standard 5) 7 1 27 get (served the_rule waiting)
    ≡ request (record {
      place = 7;
      size = 27;
      head = get;
      framing = framing.Length 2;
      max_trailer = 8192;
      async_timeout = 30000;
      part = 4;
      can_async = true;
      keep = true;
      go_on = true;
    })
continue_for_a_service = refl

-- a refusal tells whether the method was HEAD
refusal_of_get : due_by_verdict (standard 5) 7 1 27 get (turned_away 417) ≡ refusal 417 false
refusal_of_get = refl

refusal_of_head : due_by_verdict (standard 5) 7 1 28 (record get { method = codes "HEAD" }) (turned_away 417)
    ≡ refusal 417 true
refusal_of_head = refl

-- ---- what a refusal writes

abbrev refusal_head : List ℕ → List ℕ
refusal_head status =
    codes "HTTP/1.1 " ++ status
    ++ codes " \r\nContent-Type: text/plain\r\nContent-Length: 10\r\nDate: Thu, 01 Jan 1970 00:00:00 GMT\r\n"
    ++ codes "Connection: close\r\n\r\n"

refused_with_content : map (λ status. refusal_text status false 0) (400 ∷ 417 ∷ 501 ∷ [])
    ≡ (refusal_head (codes "400") ++ codes "Error 400\n") ∷ (refusal_head (codes "417") ++ codes "Error 417\n")
    ∷ (refusal_head (codes "501") ++ codes "Error 501\n") ∷ []
unfolding head_text date_at count_off digits
refused_with_content = refl

refused_without_content : map (λ status. refusal_text status true 0) (400 ∷ 417 ∷ 501 ∷ [])
    ≡ refusal_head (codes "400") ∷ refusal_head (codes "417") ∷ refusal_head (codes "501") ∷ []
unfolding head_text date_at count_off digits
refused_without_content = refl

refusals_have_129_bytes_or_119 : map (λ to_head. length (refusal_text 501 to_head 0)) (false ∷ true ∷ [])
    ≡ 129 ∷ 119 ∷ []
unfolding head_text date_at count_off digits
refusals_have_129_bytes_or_119 = refl

-- ---- the marks of what is due

abbrev of_get : Bool → TakenUp
of_get keep = taken_up_by (standard 5) 0 1 27 get (record simply { keep = keep }) 4 true

refusal_closes : due_move (refusal 417 true) ≡ Some (refused 417 true ∷ caused cause.Refused ∷ [])
refusal_closes = refl

request_begins : due_move (request (of_get false)) ≡ Some (began (of_get false) ∷ [])
request_begins = refl

-- what no rule serves begins and ends at once
not_found_ends : due_move (not_found (of_get true)) ≡ Some (began (of_get true) ∷ error_answer 404 ∷ over ∷ [])
not_found_ends = refl

last_not_found_closes : due_move (not_found (of_get false))
    ≡ Some (began (of_get false) ∷ error_answer 404 ∷ over ∷ caused cause.LastAnswer ∷ [])
last_not_found_closes = refl

-- ---- heads as they come

abbrev came_to : List Rule → List ℕ → Trace
came_to rules bytes = settled (standard 5) rules 0 ((0, came bytes) ∷ (0, opened) ∷ [])

abbrev refused_as : ℕ → Bool → List ℕ → Trace
refused_as status to_head bytes =
    (0, caused cause.Refused) ∷ (0, refused status to_head) ∷ (0, came bytes) ∷ (0, opened) ∷ []

abbrev no_host : List ℕ
no_host = codes "GET / HTTP/1.1\r\n\r\n"

malformed_is_refused : came_to (the_rule ∷ []) no_host ≡ refused_as 400 false no_host
unfolding words_on_literals
malformed_is_refused = refl

-- a malformed head comes before a tunnel, and no method was read in it
malformed_tunnel : came_to (the_rule ∷ []) (codes "CONNECT a:1 HTTP/1.1\r\n\r\n")
    ≡ refused_as 400 false (codes "CONNECT a:1 HTTP/1.1\r\n\r\n")
unfolding words_on_literals
malformed_tunnel = refl

malformed_of_head : output (came_to (the_rule ∷ []) (codes "HEAD / HTTP/1.1\r\n\r\n"))
    ≡ refusal_head (codes "400") ++ codes "Error 400\n"
unfolding words_on_literals head_text date_at count_off digits
malformed_of_head = refl

bad_target_of_head : came_to (the_rule ∷ []) (codes "HEAD a HTTP/1.1\r\nHost: a\r\n\r\n")
    ≡ refused_as 400 true (codes "HEAD a HTTP/1.1\r\nHost: a\r\n\r\n")
unfolding words_on_literals
bad_target_of_head = refl

bad_target_of_head_is_told : output (came_to (the_rule ∷ []) (codes "HEAD a HTTP/1.1\r\nHost: a\r\n\r\n"))
    ≡ refusal_head (codes "400")
unfolding words_on_literals head_text date_at count_off digits
bad_target_of_head_is_told = refl

head_isnt_served_and_has_no_content : output (came_to [] (codes "HEAD / HTTP/1.0\n\n")) ≡ refusal_head (codes "501")
unfolding words_on_literals head_text date_at count_off digits
head_isnt_served_and_has_no_content = refl

-- a refused head is no request
abbrev turned : Trace
turned = refused_as 501 false (codes "POST")

refused_is_no_request : begun_count turned ≡ 0
refused_is_no_request = refl

refused_is_not_open : is_open turned ∷ is_refused turned ∷ [] ≡ false ∷ true ∷ []
refused_is_not_open = refl

refused_closes : cause_of turned ≡ Some cause.Refused
refused_closes = refl

refused_leaves_none : request_of turned ≡ None
refused_leaves_none = refl

-- a body where no rule serves the path: a request begins with its framing, and ends at once
abbrev post : List ℕ
post = codes "POST / HTTP/1.1\r\nHost: a\r\nContent-Length: 0\r\n\r\n"

unserved_body_ends : came_to [] post
    ≡ (0, over) ∷ (0, error_answer 404) ∷ (
      0,
      began (record {
        place = 0;
        size = 47;
        head = record {
          method = codes "POST";
          target = codes "/";
          minor = 1;
          fields = record { name = codes "Host"; value = codes "a" }
              ∷ record { name = codes "Content-Length"; value = codes "0" }
              ∷ [];
        };
        framing = framing.Length 0;
        max_trailer = 8192;
        async_timeout = 30000;
        part = 0;
        can_async = false;
        keep = true;
        go_on = false;
      }),
    ) ∷ (0, came post) ∷ (0, opened) ∷ []
unfolding words_on_literals bodies_on_literals head_text digits date_at count_off
unserved_body_ends = refl
