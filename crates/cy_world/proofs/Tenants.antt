-- As many tenants left their slots as heads are done with.
use Rattle.std.proofs.Common.{◌≡◌, ◌≤◌, ◌<◌, ℕ, ◌+◌, Bool, true, false, cond, List, [], ◌∷◌, ◌++◌, set, get_or, Some, is_some, sym, ap, ◌∙◌, subst, arith}
use Rattle.std.specs.Prelude.{slice_get}
use Rattle.std.proofs.lemmas.List.Sums.{get_or-le-sum_by, sum_by-set, sum_by_push}
use Rattle.std.proofs.lemmas.Option.{slice_get-get_or, slice_get_within}
use Rattle.cy_model.specs.Connections.{History, add_own, find_own}
use Rattle.cy_model.specs.Entries.{Entry, trace_of}
use Rattle.cy_model.specs.Folds.{is_open}
use Rattle.cy_model.specs.Marks.{Trace, opened}
use Rattle.cy_proc.specs.Processors.{is_open_at}
use Rattle.cy_proc.proofs.Requests.{stands_open}
use Rattle.cy_slot.specs.Slots.{SlotParts}
use Rattle.cy_slot.specs.declared.slot.TheConstants.{GREATEST_TENANCY}
use Rattle.cy_world.specs.Answered.{IsVacant, SeatParts, start}
use Rattle.cy_world.specs.Counts.{AddUp, all_done, done_count, tenancies}
use Rattle.cy_world.specs.Places.{CountsHeads, IsInItsSlot, Lives, PlaceParts, SitsWhile, heads_of, visits_of}
use Rattle.cy_world.specs.Worlds.{AreDistinct}
use Rattle.cy_world.specs.declared.terms.Terms.{Terms}
use Rattle.cy_world.proofs.Counting.{total_last, total_own}
use Rattle.cy_world.proofs.Done.{done_grows, heads_are, open_count}
use Rattle.cy_world.proofs.Heads.{line_heads}
use Rattle.cy_world.proofs.Places.{some_who}

-- ---- sums over the places

abbrev tenancy_of : SeatParts → ℕ
tenancy_of seat = seat.place.slot.tenancy

element_is : (seats : List SeatParts) (i : ℕ) (seat : SeatParts) → slice_get seats i ≡ Some seat → get_or seats i seat ≡ seat
element_is seats i seat there =
    let same : Some (get_or seats i seat) ≡ Some seat = sym (slice_get-get_or seats i seat (slice_get_within seats i seat there)) ∙ there in cc

pub tenancy_within : (seats : List SeatParts) (i : ℕ) (seat : SeatParts) → slice_get seats i ≡ Some seat → seat.place.slot.tenancy ≤ tenancies seats
tenancy_within seats i seat there =
    omega (arith, get_or-le-sum_by tenancy_of seats i seat (slice_get_within seats i seat there), ap tenancy_of (element_is seats i seat there))

pub tenancies_set : (seats : List SeatParts) (i : ℕ) (seat new : SeatParts) → slice_get seats i ≡ Some seat
    → tenancies (set seats i new) + seat.place.slot.tenancy ≡ tenancies seats + new.place.slot.tenancy
tenancies_set seats i seat new there =
    omega (arith, sum_by-set tenancy_of seats i new seat (slice_get_within seats i seat there), ap tenancy_of (element_is seats i seat there))

-- ---- one place

-- a connection sits in its slot while a request is open
sits_is : (p : PlaceParts) → IsInItsSlot p → is_some p.who ≡ true → is_some p.slot.tenant ≡ is_open_at p.live.processor.stage
sits_is p slot guest = by_open (is_open_at p.live.processor.stage) slot.sits
  where
    by_open : (v : Bool) → SitsWhile v p → is_some p.slot.tenant ≡ v
    by_open true sits = sym (some_who p.slot.tenant) ∙ ap is_some sits.1 ∙ guest
    by_open false empty = ap (λ (q : SlotParts). is_some q.tenant) empty

guest_visits : (T : Trace) (p : PlaceParts) → IsInItsSlot p → is_some p.who ≡ true → Lives T p.live → visits_of p.slot ≡ p.slot.tenancy + open_count T
guest_visits T p slot guest lives =
    ap (λ (v : Bool). p.slot.tenancy + cond v 1 0) (sits_is p slot guest ∙ sym (stands_open T p.live.processor lives.serves.processor))

pub closed_visits : (p : PlaceParts) → IsInItsSlot p → is_open_at p.live.processor.stage ≡ false → visits_of p.slot ≡ p.slot.tenancy
closed_visits p slot closed =
    let empty = subst (λ (v : Bool). SitsWhile v p) closed slot.sits in
    omega (arith, ap {B = ℕ} (λ (q : SlotParts). cond (is_some q.tenant) 1 0) empty)

-- as many more left the slot as heads are done with more
left_by : (old new : PlaceParts) (before now open_before open_now : ℕ) → CountsHeads old new
    → visits_of old.slot ≡ old.slot.tenancy + open_before → visits_of new.slot ≡ new.slot.tenancy + open_now
    → heads_of old.live.line ≡ before + open_before → heads_of new.live.line ≡ now + open_now → open_now ≤ 1
    → old.slot.tenancy + now < GREATEST_TENANCY + before → new.slot.tenancy + before ≡ old.slot.tenancy + now
left_by old new before now open_before open_now counts visits_old visits_new heads_old heads_new few less =
    let many = counts.as_many (omega (arith, visits_old, heads_old, heads_new, few, less)) in
    omega (arith, many, visits_old, visits_new, heads_old, heads_new)

one_open : (T : Trace) → open_count T ≤ 1
one_open T = elim (is_open T) as (λ v. cond v 1 0 ≤ 1) [ true ↦ omega arith | false ↦ omega arith ]

-- ---- all of them

-- a connection took an entry
pub entry_adds : (s : Terms) (hs : List History) (c i : ℕ) (e : Entry) (entries : List (ℕ × Entry)) (seats : List SeatParts) (seat new : SeatParts) → AreDistinct hs → find_own c hs ≡ Some entries
    → slice_get seats i ≡ Some seat → Lives (trace_of s.limits s.rules entries) seat.place.live → Lives (trace_of s.limits s.rules ((start, e) ∷ entries)) new.place.live
    → IsInItsSlot seat.place → IsInItsSlot new.place → is_some seat.place.who ≡ true → is_some new.place.who ≡ true → CountsHeads seat.place new.place
    → AddUp s seats hs → AddUp s (set seats i new) (add_own start c e hs)
entry_adds s hs c i e entries seats seat new distinct found there before now slot_old slot_new guest_old guest_new counts adds less =
    let T = trace_of s.limits s.rules entries in
    let R = trace_of s.limits s.rules ((start, e) ∷ entries) in
    let sum = total_own (λ (es : List (ℕ × Entry)). done_count (trace_of s.limits s.rules es)) start c e hs entries distinct found in
    let grows = done_grows s.limits s.rules entries start e in
    let was = adds (omega (arith, sum, grows, less)) in
    let within = tenancy_within seats i seat there in
    let left = left_by seat.place new.place (done_count T) (done_count R) (open_count T) (open_count R) counts
    (guest_visits T seat.place slot_old guest_old before) (guest_visits R new.place slot_new guest_new now)
    (line_heads T seat.place.live.line before.serves.line ∙ heads_are s.limits s.rules entries)
    (line_heads R new.place.live.line now.serves.line ∙ heads_are s.limits s.rules ((start, e) ∷ entries))
    (one_open R) (omega (arith, within, was, sum, less)) in
    omega (arith, tenancies_set seats i seat new there, left, sum, was)

-- a connection was admitted
pub admission_adds : (s : Terms) (hs : List History) (h : History) (n : ℕ) (seats : List SeatParts) (seat new : SeatParts) → slice_get seats n ≡ Some seat → IsVacant s.limits seat
    → Lives (trace_of s.limits s.rules h.entries) new.place.live → IsInItsSlot new.place → is_some new.place.who ≡ true → CountsHeads seat.place new.place
    → AddUp s seats hs → AddUp s (set seats n new) (hs ++ h ∷ [])
admission_adds s hs h n seats seat new there vacant now slot guest counts adds less =
    let R = trace_of s.limits s.rules h.entries in
    let sum = total_last (λ (es : List (ℕ × Entry)). done_count (trace_of s.limits s.rules es)) hs h in
    let was = adds (omega (arith, sum, less)) in
    let within = tenancy_within seats n seat there in
    let closed : is_open_at seat.place.live.processor.stage ≡ false = sym (stands_open ((start, opened) ∷ []) seat.place.live.processor vacant.lives.serves.processor) in
    let none : heads_of seat.place.live.line ≡ 0 + 0 = line_heads ((start, opened) ∷ []) seat.place.live.line vacant.lives.serves.line in
    let left = left_by seat.place new.place 0 (done_count R) 0 (open_count R) counts
    (closed_visits seat.place vacant.slot closed ∙ omega arith) (guest_visits R new.place slot guest now)
    none
    (line_heads R new.place.live.line now.serves.line ∙ heads_are s.limits s.rules h.entries)
    (one_open R) (omega (arith, within, was, sum, less)) in
    omega (arith, tenancies_set seats n seat new there, left, sum, was)

-- the number of the next tenant is the same in a place
pub same_adds : (s : Terms) (hs : List History) (i : ℕ) (seats : List SeatParts) (seat new : SeatParts) → slice_get seats i ≡ Some seat → new.place.slot.tenancy ≡ seat.place.slot.tenancy
    → AddUp s seats hs → AddUp s (set seats i new) hs
same_adds s hs i seats seat new there same adds less = omega (arith, tenancies_set seats i seat new there, same, adds less)

-- a connection that is gone sits nowhere
pub leaves_adds : (s : Terms) (hs : List History) (i : ℕ) (seats : List SeatParts) (seat new : SeatParts) → slice_get seats i ≡ Some seat → IsInItsSlot seat.place → is_open_at seat.place.live.processor.stage ≡ false
    → IsVacant s.limits new → visits_of new.place.slot ≡ visits_of seat.place.slot → AddUp s seats hs → AddUp s (set seats i new) hs
leaves_adds s hs i seats seat new there slot closed vacant visits adds =
    let closed_now : is_open_at new.place.live.processor.stage ≡ false = sym (stands_open ((start, opened) ∷ []) new.place.live.processor vacant.lives.serves.processor) in
    same_adds s hs i seats seat new there (sym (closed_visits new.place vacant.slot closed_now) ∙ visits ∙ closed_visits seat.place slot closed) adds

-- nothing is done with more
pub passes_adds : (s : Terms) (seats : List SeatParts) (hs gs : List History) → all_done s.limits s.rules gs ≡ all_done s.limits s.rules hs → AddUp s seats hs → AddUp s seats gs
passes_adds s seats hs gs same adds less = omega (arith, same, adds (omega (arith, same, less)))

-- a connection took an entry that changes nothing
pub none_adds : (s : Terms) (seats : List SeatParts) (hs : List History) (c : ℕ) (e : Entry) (entries : List (ℕ × Entry)) → AreDistinct hs → find_own c hs ≡ Some entries
    → trace_of s.limits s.rules ((start, e) ∷ entries) ≡ trace_of s.limits s.rules entries → AddUp s seats hs → AddUp s seats (add_own start c e hs)
none_adds s seats hs c e entries distinct found same adds =
    passes_adds s seats hs (add_own start c e hs)
    (omega (arith, total_own (λ (es : List (ℕ × Entry)). done_count (trace_of s.limits s.rules es)) start c e hs entries distinct found, ap done_count same))
    adds

-- one place more, whose slot nobody has used
pub pushed_none : (seats : List SeatParts) (seat : SeatParts) (now : List SeatParts) → now ≡ seats ++ seat ∷ [] → tenancies seats ≡ 0 → visits_of seat.place.slot ≡ 0 → tenancies now ≡ 0
pushed_none seats seat now is none fresh = omega (arith, ap tenancies is, sum_by_push tenancy_of seats seat, none, fresh)
