-- What the tactics leave of the proof of `read_target`.
use Rattle.std.proofs.Common.{◌≡◌, List, ℕ, [], ◌∷◌, ◌++◌, true, false, Some, None, sym, ap, ◌∙◌}
use Rattle.std.specs.Prelude.{is_some}
use Rattle.cy_target.proofs.TargetLemmas.{star_is, asterisk_names, form_is_bad, path_is_bad, target_names, keeps_named, keeps_nothing}
use Rattle.cy_target.proofs.target.read_target.Goals as goal

pub returns-then-is_asterisk-clause-read : goal.returns-then-is_asterisk-clause-read
returns-then-is_asterisk-clause-read c =
    let h = c.head.inside in
    let star = star_is h.method_bytes.items h.target_bytes.items c.as_slice.result.now c.as_slice-2.result.now c.is_asterisk.result true
    c.as_slice.ensures.value c.as_slice-2.ensures.value c.is_asterisk.ensures c.if-is_asterisk.true in
    let names = asterisk_names h.method_bytes.items h.target_bytes.items star in
    rw (← c.head.view_is) (sym (ap is_some names))

pub returns-then-is_asterisk-clause-head : goal.returns-then-is_asterisk-clause-head
returns-then-is_asterisk-clause-head c =
    let h = c.head.inside in
    let star = star_is h.method_bytes.items h.target_bytes.items c.as_slice.result.now c.as_slice-2.result.now c.is_asterisk.result true
    c.as_slice.ensures.value c.as_slice-2.ensures.value c.is_asterisk.ensures c.if-is_asterisk.true in
    let names = asterisk_names h.method_bytes.items h.target_bytes.items star in
    let written : c.push_reserved.new.self.items ≡ 42 ∷ [] = c.push_reserved.ensures.items ∙ ap (λ (p : List ℕ). p ++ 42 ∷ []) c.clear.ensures.items in
    rw (← c.head.view_is, written) (keeps_named _ _ (42 ∷ []) _ None _ _ names)

pub returns-in_default-clause-read : goal.returns-in_default-clause-read
returns-in_default-clause-read c =
    let h = c.head.inside in
    let star = star_is h.method_bytes.items h.target_bytes.items c.as_slice.result.now c.as_slice-2.result.now c.is_asterisk.result false
    c.as_slice.ensures.value c.as_slice-2.ensures.value c.is_asterisk.ensures c.if-is_asterisk.false in
    let names = form_is_bad h.method_bytes.items h.target_bytes.items c.as_slice-3.result.now star c.as_slice-3.ensures.value c.in_default.ensures.parts in
    rw (← c.head.view_is) (sym (ap is_some names))

pub returns-in_default-clause-head : goal.returns-in_default-clause-head
returns-in_default-clause-head c =
    let h = c.head.inside in
    let star = star_is h.method_bytes.items h.target_bytes.items c.as_slice.result.now c.as_slice-2.result.now c.is_asterisk.result false
    c.as_slice.ensures.value c.as_slice-2.ensures.value c.is_asterisk.ensures c.if-is_asterisk.false in
    let names = form_is_bad h.method_bytes.items h.target_bytes.items c.as_slice-3.result.now star c.as_slice-3.ensures.value c.in_default.ensures.parts in
    rw (← c.head.view_is) (keeps_nothing _ _ _ _ _ _ c.clear.ensures.items names)

pub returns-in-Err-clause-read : goal.returns-in-Err-clause-read
returns-in-Err-clause-read c =
    let h = c.head.inside in
    let star = star_is h.method_bytes.items h.target_bytes.items c.as_slice.result.now c.as_slice-2.result.now c.is_asterisk.result false
    c.as_slice.ensures.value c.as_slice-2.ensures.value c.is_asterisk.ensures c.if-is_asterisk.false in
    let names = path_is_bad h.method_bytes.items h.target_bytes.items c.as_slice-3.result.now c.in-Some.raw.path.now _ star c.as_slice-3.ensures.value c.in-Some.ensures.parts c.in-Err.ensures.path in
    rw (← c.head.view_is) (sym (ap is_some names))

pub returns-in-Err-clause-head : goal.returns-in-Err-clause-head
returns-in-Err-clause-head c =
    let h = c.head.inside in
    let star = star_is h.method_bytes.items h.target_bytes.items c.as_slice.result.now c.as_slice-2.result.now c.is_asterisk.result false
    c.as_slice.ensures.value c.as_slice-2.ensures.value c.is_asterisk.ensures c.if-is_asterisk.false in
    let names = path_is_bad h.method_bytes.items h.target_bytes.items c.as_slice-3.result.now c.in-Some.raw.path.now _ star c.as_slice-3.ensures.value c.in-Some.ensures.parts c.in-Err.ensures.path in
    rw (← c.head.view_is) (keeps_nothing _ _ _ _ _ _ c.clear-in-Err.ensures.items names)

pub returns-in-Some-query-clause-read : goal.returns-in-Some-query-clause-read
returns-in-Some-query-clause-read c =
    let h = c.head.inside in
    let star = star_is h.method_bytes.items h.target_bytes.items c.as_slice.result.now c.as_slice-2.result.now c.is_asterisk.result false
    c.as_slice.ensures.value c.as_slice-2.ensures.value c.is_asterisk.ensures c.if-is_asterisk.false in
    let sent = rw c.in-Some-query.is at c.in-Some.ensures.parts in
    let names = target_names h.method_bytes.items h.target_bytes.items c.as_slice-3.result.now c.in-Some.raw.path.now c.write_path.new.path.items
    (Some c.in-Some-query.query.now) star c.as_slice-3.ensures.value sent c.in-Ok.ensures.path in
    rw (← c.head.view_is) (sym (ap is_some names))

pub returns-in-Some-query-clause-head : goal.returns-in-Some-query-clause-head
returns-in-Some-query-clause-head c =
    let h = c.head.inside in
    let star = star_is h.method_bytes.items h.target_bytes.items c.as_slice.result.now c.as_slice-2.result.now c.is_asterisk.result false
    c.as_slice.ensures.value c.as_slice-2.ensures.value c.is_asterisk.ensures c.if-is_asterisk.false in
    let sent = rw c.in-Some-query.is at c.in-Some.ensures.parts in
    let names = target_names h.method_bytes.items h.target_bytes.items c.as_slice-3.result.now c.in-Some.raw.path.now c.write_path.new.path.items
    (Some c.in-Some-query.query.now) star c.as_slice-3.ensures.value sent c.in-Ok.ensures.path in
    let written : c.extend_in_room.new.to.items ≡ c.in-Some-query.query.now = c.extend_in_room.ensures.items ∙ ap (λ (p : List ℕ). p ++ c.in-Some-query.query.now) c.clear-2.ensures.items in
    rw (← c.head.view_is, written) (keeps_named _ _ c.write_path.new.path.items _ (Some c.in-Some-query.query.now) _ _ names)

pub returns-in_default-query-clause-read : goal.returns-in_default-query-clause-read
returns-in_default-query-clause-read c =
    let h = c.head.inside in
    let star = star_is h.method_bytes.items h.target_bytes.items c.as_slice.result.now c.as_slice-2.result.now c.is_asterisk.result false
    c.as_slice.ensures.value c.as_slice-2.ensures.value c.is_asterisk.ensures c.if-is_asterisk.false in
    let sent = rw c.in_default-query.is at c.in-Some.ensures.parts in
    let names = target_names h.method_bytes.items h.target_bytes.items c.as_slice-3.result.now c.in-Some.raw.path.now c.write_path.new.path.items
    None star c.as_slice-3.ensures.value sent c.in-Ok.ensures.path in
    rw (← c.head.view_is) (sym (ap is_some names))

pub returns-in_default-query-clause-head : goal.returns-in_default-query-clause-head
returns-in_default-query-clause-head c =
    let h = c.head.inside in
    let star = star_is h.method_bytes.items h.target_bytes.items c.as_slice.result.now c.as_slice-2.result.now c.is_asterisk.result false
    c.as_slice.ensures.value c.as_slice-2.ensures.value c.is_asterisk.ensures c.if-is_asterisk.false in
    let sent = rw c.in_default-query.is at c.in-Some.ensures.parts in
    let names = target_names h.method_bytes.items h.target_bytes.items c.as_slice-3.result.now c.in-Some.raw.path.now c.write_path.new.path.items
    None star c.as_slice-3.ensures.value sent c.in-Ok.ensures.path in
    rw (← c.head.view_is) (keeps_named _ _ c.write_path.new.path.items _ None _ _ names)
