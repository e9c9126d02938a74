-- What the tactics leave of the proof of `RespHead::push_field`.
use Rattle.std.proofs.Common.{arith, ap, sym, subst, ◌≡◌, ◌++◌, ◌∷◌, ◌∙◌, [], ℕ, List, None, length, map, flat_map, vec_len}
use Rattle.std.specs.List.{All, list_all}
use Rattle.cy_event.specs.Answers.{Answer, field_line}
use Rattle.cy_event.specs.Heads.{Field}
use Rattle.cy_respond.specs.Fields.{field_size, may_stand}
use Rattle.cy_respond.specs.FieldLines.{field_at, fields_of, IsPlaceWithin}
use Rattle.cy_respond.proofs.Kept.{grown, kept_count, kept_size}
use Rattle.cy_respond.proofs.LineLemmas.{lines_more, places_more, stand_more}
use Rattle.cy_respond.proofs.head.RespHead.push_field.Goals as goal

pub push_line-requires : goal.push_line-requires
push_line-requires c =
    let same = ap (λ (a : Answer). field_size a.fields) c.self.view_is in
    let count = ap (λ (a : Answer). length a.fields) c.self.view_is in
    omega (arith, kept_size c.self.inside c.self.invariant, kept_count c.self.inside, same, count)

pub invariant_of-self : goal.invariant_of-self
invariant_of-self c =
    let b = c.self.inside in
    let f : Field = record { name = c.args.name.now; value = c.args.value.now } in
    let lines = c.push_line.new.lines in
    let places = c.push_reserved.new.self in
    let grew : map (field_at lines.items) places.items ≡ fields_of b ++ f ∷ []
    = grown b c.self.invariant f.name f.value _ lines.items places.items c.push_line.ensures.line c.push_reserved.ensures.items
    c.len-start.ensures (omega arith) (omega arith) in
    let same = ap (λ (a : Answer). field_size a.fields) c.self.view_is in
    let count = ap (λ (a : Answer). length a.fields) c.self.view_is in
    let size = kept_size b c.self.invariant in
    let counted = kept_count b in
    record {
      line_room = omega arith;
      line_size = omega (arith, same, size);
      place_room = omega arith;
      place_count = omega (arith, count, counted);
      status_least = c.self.invariant.status_least;
      status_greatest = c.self.invariant.status_greatest;
      lines = c.push_line.ensures.line ∙ ap (λ (xs : List ℕ). xs ++ field_line f) c.self.invariant.lines ∙ sym (lines_more (fields_of b) f) ∙ ap (flat_map field_line) (sym grew);
      places = subst (All (IsPlaceWithin (vec_len lines))) (sym c.push_reserved.ensures.items)
          (places_more (vec_len b.lines) (vec_len lines) b.places.items _ (omega arith) c.self.invariant.places (omega arith, omega arith, omega arith));
      fields = ap (list_all may_stand) grew ∙ stand_more (fields_of b) f c.self.invariant.fields c.requires.fits;
    }

pub returns : goal.returns
returns c =
    let b = c.self.inside in
    let lines = c.push_line.new.lines in
    let places = c.push_reserved.new.self in
    let grew : map (field_at lines.items) places.items ≡ fields_of b ++ record { name = c.args.name.now; value = c.args.value.now } ∷ []
    = grown b c.self.invariant c.args.name.now c.args.value.now _ lines.items places.items c.push_line.ensures.line c.push_reserved.ensures.items
    c.len-start.ensures (omega arith) (omega arith) in
    rw (← c.self.view_is) (λ i. record { status = b.status; fields = grew i; set_length = None; content = [] })
