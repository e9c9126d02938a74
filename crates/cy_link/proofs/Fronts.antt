-- Lemmas on the front of a list.
use Rattle.std.proofs.Common.{◌≡◌, ℕ, ◌+◌, List, ◌++◌, length, take, drop, subst, take-append-drop}
use Rattle.std.proofs.Math.Seq.{take-append_seam}
use Rattle.std.proofs.lemmas.List.{drop-drop}

-- what is left from a place on is its front, wherever that was put, and what is left after it
pub front_moves : (content slice front : List ℕ) (at' n : ℕ) → length front ≡ n → front ≡ take n (drop at' content)
    → drop at' content ≡ take n (front ++ slice) ++ drop (at' + n) content
front_moves content slice front at' n len is =
    let same : take n (front ++ slice) ≡ front = subst (λ k. take k (front ++ slice) ≡ front) len (take-append_seam front slice) in
    let whole : take n (drop at' content) ++ drop n (drop at' content) ≡ drop at' content = take-append-drop n (drop at' content) in
    let rest : drop n (drop at' content) ≡ drop (at' + n) content = drop-drop n at' content in
    cc
