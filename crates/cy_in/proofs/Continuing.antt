-- What follows from the fact that a written body is read as itself.
use Rattle.std.proofs.Common.{◌≡◌, ℕ, true, List, ◌++◌, length, take, refl, sym, ap, ◌∙◌}
use Rattle.std.proofs.lemmas.List.{take_at}
use Rattle.cy_event.specs.Bodies.{BadBody, bad, body_of, body_start, content_in, is_over, partial, scan_bytes, whole}
use Rattle.cy_event.specs.BodyGrammar.{IsBody}
use Rattle.cy_event.specs.declared.framing.Framing.{Framing}
use Rattle.cy_event.specs.declared.body.BodyMark.{BodyMark}
use Rattle.cy_in.proofs.Joins.{content_join, settled_body}
use Rattle.cy_in.proofs.BodiesAt.{bad_is_over, bad_stage, partial_content, whole_content}
use Rattle.cy_in.proofs.BodyWritten.{written_is_whole}

bad_not_whole : (why : BadBody) (content : List ℕ) (n : ℕ) → bad why ≡ whole content n → ⊥
bad_not_whole why content n e = cc

pub bad_has_none : (max : ℕ) (f : Framing) (bytes more body behind content : List ℕ) (why : BadBody) →
    body_of max f bytes ≡ bad why → IsBody max f body content → body ++ behind ≡ bytes ++ more → ⊥
bad_has_none max f bytes more body behind content why e written same =
    let m : BodyMark = scan_bytes max (body_start f) bytes in
    let over : is_over m.stage ≡ true = bad_is_over m.stage (bad_stage m (content_in max (body_start f) bytes) m.stage why e) in
    bad_not_whole why content (length body)
    (sym e ∙ (sym (settled_body max f bytes more over) ∙ (ap (body_of max f) (sym same) ∙ written_is_whole max f body content behind written)))

pub partial_stays : (max : ℕ) (f : Framing) (bytes more body behind held content : List ℕ) →
    body_of max f bytes ≡ partial held → IsBody max f body content → body ++ behind ≡ bytes ++ more →
    (later : List ℕ) × (content ≡ held ++ later)
partial_stays max f bytes more body behind held content e written same =
    let all : BodyMark = scan_bytes max (body_start f) (bytes ++ more) in
    let m : BodyMark = scan_bytes max (body_start f) bytes in
    let is_all : content_in max (body_start f) (bytes ++ more) ≡ content =
    whole_content all (content_in max (body_start f) (bytes ++ more)) all.stage content (length body)
    (ap (body_of max f) (sym same) ∙ written_is_whole max f body content behind written) in
    let is_held : content_in max (body_start f) bytes ≡ held = partial_content m (content_in max (body_start f) bytes) m.stage held e in
    (content_in max m more, sym is_all ∙ (content_join max (body_start f) bytes more ∙ ap (λ (c : List ℕ). c ++ content_in max m more) is_held))

same_content : (c d : List ℕ) (n k : ℕ) → whole c n ≡ whole d k → c ≡ d
same_content c d n k e = cc

same_size : (c d : List ℕ) (n k : ℕ) → whole c n ≡ whole d k → n ≡ k
same_size c d n k e = cc

pub one_in_front : (max : ℕ) (f : Framing) (a behind b beyond content other : List ℕ) →
    IsBody max f a content → IsBody max f b other → a ++ behind ≡ b ++ beyond → (a ≡ b) × (content ≡ other)
one_in_front max f a behind b beyond content other first second same =
    let e : whole content (length a) ≡ whole other (length b) =
    sym (written_is_whole max f a content behind first) ∙ (ap (body_of max f) same ∙ written_is_whole max f b other beyond second) in
    let size : length b ≡ length a = sym (same_size content other (length a) (length b) e) in
    (sym (take_at a behind (length a) refl) ∙ (ap (take (length a)) same ∙ take_at b beyond (length a) size), same_content content other _ _ e)
