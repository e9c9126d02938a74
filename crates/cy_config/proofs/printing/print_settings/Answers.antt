-- The text is one of the members that are printed.
use Rattle.std.proofs.Common.{◌≡◌, ◌≤◌, false, Some, Ok, Err, List, ℕ, IsUtf8, string_bytes, sym, ap, subst, ◌∙◌, arith}
use Rattle.std.proofs.lemmas.Bool.{false≢true}
use Rattle.std.proofs.lemmas.Grind.{common_steps}
use Rattle.toml.specs.Data.{Members, members_depth, members_have_valid_dates}
use Rattle.toml.specs.Parse.{parse_document}
use Rattle.toml.specs.Text.{IsDocumentText}
use Rattle.toml.specs.View.{table_view}
use Rattle.cy_config.specs.Printing.{AreSettings, printed}
use Rattle.cy_config.specs.Texts.{shown}
use Rattle.cy_config.proofs.PrintedBack.{means_back, printed_dates}
use Rattle.cy_config.proofs.printing.print_settings.Goals as goal

pub returns-in-Ok-clause-reads_back : goal.returns-in-Ok-clause-reads_back
returns-in-Ok-clause-reads_back c =
    let are : AreSettings (shown c.args.settings.now) = record {
      in_range = c.args.settings.now.in_range;
      threads = c.args.settings.now.threads;
      taken = c.args.settings.now.taken;
      known_parts = c.args.settings.now.known_parts;
      parts = c.args.settings.now.parts;
    } in
    let bytes : c.as_bytes.result.now ≡ c.of.result = grind (arith, common_steps) in
    let text : string_bytes c.in-Ok.text ≡ c.of.result = grind (arith, common_steps) in
    means_back c.of.result (shown c.args.settings.now) (table_view c.in_ok-top.top) are c.in_ok-top.ensures
    (subst (λ (t : List ℕ). IsUtf8 t) bytes c.as_bytes.ensures.utf8)
    (subst (λ (t : List ℕ). members_depth (table_view c.in_ok-top.top) ≤ 80 → parse_document t ≡ Some (table_view c.in_ok-top.top)) text c.in-Ok.ensures.reads_back)

pub returns-in-Ok-clause-text : goal.returns-in-Ok-clause-text
returns-in-Ok-clause-text c =
    let text : string_bytes c.in-Ok.text ≡ c.of.result = grind (arith, common_steps) in
    subst (λ (t : List ℕ). IsDocumentText false (printed (shown c.args.settings.now)) t) text
    (subst (λ (ms : Members). IsDocumentText false ms (string_bytes c.in-Ok.text)) c.in_ok-top.ensures c.in-Ok.ensures.text)

pub unreachable-requires : goal.unreachable-requires
unreachable-requires c =
    let none : members_have_valid_dates (table_view c.in_ok-top.top) ≡ false = c.in-Err-DateInvalid.ensures.dates.0 (ap Err c.in-Err-DateInvalid.field-0-is) in
    false≢true (sym none ∙ ap members_have_valid_dates c.in_ok-top.ensures ∙ printed_dates (shown c.args.settings.now))
