-- What the tactics leave of the proof of `framing`.
use Rattle.std.proofs.lemmas.Result.{err_from_is_err_and}
use Rattle.cy_framing.proofs.VerdictLemmas.{all_is_told, awaited, body_is_refused, expectation_is_refused, expectations, not_awaited}
use Rattle.cy_framing.proofs.verdict.framing.Goals as goal

pub returns-in_err-body : goal.returns-in_err-body
returns-in_err-body c =
    let refused = err_from_is_err_and c.from_residual.result c.from_residual.ensures.1 in
    rw (refused.1, refused.2) (body_is_refused c.args.head.now.head.minor c.args.head.now.head.fields _ c.in_err-body.ensures)

pub returns-then-expected : goal.returns-then-expected
returns-then-expected c =
    expectation_is_refused c.args.head.now.head.minor c.args.head.now.head.fields c.in_ok-body.body c.expected_by-expected.result.other c.in_ok-body.ensures
    c.expected_by-expected.ensures.other c.if-expected.true

pub returns-then-expected-2 : goal.returns-then-expected-2
returns-then-expected-2 c =
    let minor = c.args.head.now.head.minor in
    let fields = c.args.head.now.head.fields in
    all_is_told minor fields c.in_ok-body.body c.expected_by-expected.result.other c.persists.result c.has_body.result c.in_ok-body.ensures
    c.expected_by-expected.ensures.other c.if-expected.false c.persists.ensures
    (awaited minor (expectations fields) c.in_ok-body.body c.expected_by-expected.result.go_on c.has_body.result c.expected_by-expected.ensures.go_on
    c.if-expected-2.true c.has_body.ensures)

pub returns-else-expected-2 : goal.returns-else-expected-2
returns-else-expected-2 c =
    let minor = c.args.head.now.head.minor in
    let fields = c.args.head.now.head.fields in
    all_is_told minor fields c.in_ok-body.body c.expected_by-expected.result.other c.persists.result c.expected_by-expected.result.go_on c.in_ok-body.ensures
    c.expected_by-expected.ensures.other c.if-expected.false c.persists.ensures
    (not_awaited minor (expectations fields) c.in_ok-body.body c.expected_by-expected.result.go_on c.expected_by-expected.ensures.go_on c.if-expected-2.false)
