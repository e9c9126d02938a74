-- A script as it is read: line by line, and each line from its front.
use Rattle.std.specs.Prelude.{ℕ, ◌-◌, ◌^◌, Bool, true, false, ◌&&◌, ◌==◌, nat_le, nat_lt, if◌then◌else◌, List, [], ◌∷◌, ◌++◌, length, take, drop, codes, Option, Some, None, option_map, bytes_eq, negsuc}
use Rattle.std.specs.Option.{option_and_then}
use Rattle.std.specs.Result.{result_ok}
use Rattle.cy_bytes.specs.Numbers.{decimal_of}
use Rattle.cy_bytes.specs.Quoting.{unquoted}
use Rattle.cy_event.specs.Limits.{standard}
use Rattle.cy_event.specs.declared.steps.Act.TheVariants as act
use Rattle.cy_event.specs.declared.steps.Event.TheVariants as event
use Rattle.cy_event.specs.declared.steps.Step.{Step}
use Rattle.cy_event.specs.declared.steps.TheConstants.{GREATEST_READ}
use Rattle.cy_event.specs.declared.steps.Step.TheVariants as step
use Rattle.cy_map.specs.declared.rule.Rule.{Rule}
use Rattle.cy_script.specs.declared.script.Script.{Script}
use Rattle.cy_settings.specs.declared.limit.Limit.{Limit}
use Rattle.cy_script.specs.declared.statements.Statement.{Statement}
use Rattle.cy_script.specs.declared.statements.Statement.TheVariants as statement
use Rattle.cy_script.specs.Conditions.{is_next_step}
use Rattle.cy_script.specs.TextLines.{line_feed, space}
use Rattle.cy_script.specs.Settings.{with_setting}
use Rattle.cy_script.specs.Spelling.{first_line}
use Rattle.cy_settings.specs.Limits.{limit_greatest, limit_least, limit_named}
use Rattle.cy_settings.specs.Rules.{is_next_rule, most_part, parts_of}

infixl 10 ◌>>=◌
abbrev pub ◌>>=◌ : {A B : Type 0} → Option A → (A → Option B) → Option B
o >>= f = option_and_then f o

-- ---- lines

-- a byte at the front of the first line, or of a line of its own where there is none
abbrev pub in_first : ℕ → List (List ℕ) → List (List ℕ)
in_first b [] = (b ∷ []) ∷ []
in_first b (line ∷ lines) = (b ∷ line) ∷ lines

-- a byte in front of lines: a line feed ends an empty line
abbrev pub before : ℕ → List (List ℕ) → List (List ℕ)
before b lines = if b == line_feed then [] ∷ lines else in_first b lines

-- the lines of a text, without their line feeds
abbrev pub lines_of : List ℕ → List (List ℕ)
lines_of [] = []
lines_of (b ∷ text) = before b (lines_of text)

-- ---- fields

-- the first word of a text
abbrev pub word_of : List ℕ → List ℕ
word_of [] = []
word_of (b ∷ text) = if b == space then [] else b ∷ word_of text

-- what follows it: nothing, or a space and more
abbrev pub behind_word : List ℕ → List ℕ
behind_word [] = []
behind_word (b ∷ text) = if b == space then b ∷ text else behind_word text

-- what stands behind the space that begins a text
abbrev pub behind_space : List ℕ → Option (List ℕ)
behind_space [] = None
behind_space (b ∷ text) = if b == space then Some text else None

-- the next field as a word, and what follows it
abbrev pub word_field : List ℕ → Option (List ℕ × List ℕ)
word_field text = option_map (λ field. (word_of field, behind_word field)) (behind_space text)

-- the next field as a number, and what follows it
abbrev pub number_field : List ℕ → Option (ℕ × List ℕ)
number_field text = do
  field ← word_field text
  option_map (λ n. (n, field.1)) (decimal_of field.0)

-- what stands in a text between a front and a back
abbrev pub between : List ℕ → List ℕ → List ℕ → Option (List ℕ)
between front back text =
    let inner = drop (length front) (take (length text - length back) text) in
    if bytes_eq text (front ++ inner ++ back) then Some inner else None

-- the bytes of the last field, a quoted text
abbrev pub quoted_field : List ℕ → Option (List ℕ)
quoted_field text = do
  inner ← between (codes " \"") (codes "\"") text
  result_ok (unquoted inner)

-- this, where no field follows
abbrev pub alone : {A : Type 0} → A → List ℕ → Option A
alone x [] = Some x
alone x (b ∷ text) = None

-- ---- steps

abbrev pub taken_of : ℕ → List ℕ → Option Step
taken_of conn fields = do
  count ← number_field fields
  alone (step.On conn (event.Took count.0) []) count.1

abbrev pub came_of : ℕ → List ℕ → Option Step
came_of conn fields = option_map (λ bytes. step.On conn event.In bytes) (quoted_field fields)

-- a write of these bytes, where their number fits
abbrev pub write_of : ℕ → List ℕ → Option Step
write_of conn bytes = if nat_lt (length bytes) (2 ^ 32) then Some (step.Act conn (act.Write (length bytes)) bytes) else None

-- a read of at most so many bytes, where it may ask for as many
abbrev pub read_of : ℕ → List ℕ → Option Step
read_of conn fields = do
  count ← number_field fields
  if nat_le count.0 GREATEST_READ then alone (step.Act conn (act.Read count.0) []) count.1 else None

-- an act, from the fields behind its connection
abbrev pub act_of : ℕ → List ℕ → Option Step
act_of conn fields = do
  act ← word_field fields
  if bytes_eq act.0 (codes "write") then quoted_field act.1 >>= write_of conn
      else if bytes_eq act.0 (codes "read") then read_of conn act.1 else None

-- the step of a line's first word, of a connection, and of the fields behind its number
abbrev pub step_of_word : List ℕ → ℕ → List ℕ → Option Step
step_of_word word conn fields =
    if bytes_eq word (codes "admit") then alone (step.Admit conn) fields
    else if bytes_eq word (codes "in") then came_of conn fields
    else if bytes_eq word (codes "end") then alone (step.On conn event.End []) fields
    else if bytes_eq word (codes "out") then taken_of conn fields
    else if bytes_eq word (codes "run") then alone (step.Run conn) fields
    else if bytes_eq word (codes "act") then act_of conn fields
    else if bytes_eq word (codes "return") then alone (step.Act conn act.Return []) fields
    else None

-- the step of a line's first word and its fields
abbrev pub step_line : List ℕ → List ℕ → Option Step
step_line word fields = do
  conn ← number_field fields
  step_of_word word conn.0 conn.1

-- ---- settings

-- the setting has the value, where that is within its range
abbrev pub set_of : Limit → ℕ → Option Statement
set_of setting value = if nat_le (limit_least setting) value && nat_le value (limit_greatest setting) then Some (statement.Set setting value) else None

abbrev pub set_to : Limit → List ℕ → Option Statement
set_to setting fields = do
  value ← number_field fields
  set ← set_of setting value.0
  alone set value.1

-- what a line says of a setting, from the fields behind its first word
abbrev pub set_line : List ℕ → Option Statement
set_line fields =
    if bytes_eq fields (codes " maxKeepAliveRequests -1") then Some statement.NoLimit
    else do
      name ← word_field fields
      setting ← limit_named name.0
      set_to setting name.1

-- ---- rules

abbrev pub is_async : List ℕ → Option Bool
is_async word = if bytes_eq word (codes "async") then Some true else if bytes_eq word (codes "sync") then Some false else None

-- a rule whose part is known
abbrev pub rule_of_part : List ℕ → ℕ → Bool → Option Rule
rule_of_part pattern part can_async = if nat_le part most_part then Some (record { pattern = pattern; part = part; can_async = can_async }) else None

-- the rule of a line, from the fields behind its first word
abbrev pub rule_line : List ℕ → Option Rule
rule_line fields = do
  pattern ← word_field fields
  part ← number_field pattern.1
  mode ← word_field part.1
  can_async ← is_async mode.0
  rule ← rule_of_part pattern.0 part.0 can_async
  alone rule mode.1

-- ---- statements

-- the line is empty, or a comment
abbrev pub is_skipped : List ℕ → Bool
is_skipped [] = true
is_skipped (b ∷ line) = b == 35

-- what a line says, from its first word and its fields
abbrev pub statement_of_word : List ℕ → List ℕ → Option Statement
statement_of_word word fields =
    if bytes_eq word (codes "set") then set_line fields
    else if bytes_eq word (codes "rule") then option_map statement.Rule (rule_line fields)
    else option_map statement.Step (step_line word fields)

-- what a line says
abbrev pub statement_of : List ℕ → Option Statement
statement_of line = if is_skipped line then Some statement.Nothing else statement_of_word (word_of line) (behind_word line)

-- ---- scripts

-- what no lines say
abbrev pub nothing_said : Script
nothing_said = record { limits = standard 0; rules = []; steps = [] }

-- the script so far, with this in front of its steps, where it has none
abbrev pub before_steps : Script → Script → Option Script
before_steps script next = if length script.steps == 0 then Some next else None

-- the script so far with a further step, where that may be the next
abbrev pub with_step : Script → Step → Option Script
with_step script s =
    if is_next_step script.steps s then Some (record script { steps = script.steps ++ s ∷ [] })
    else None

-- the script so far behind a further statement
abbrev pub after_statement : Script → Statement → Option Script
after_statement script statement.Nothing = Some script
after_statement script (statement.Set setting value) = before_steps script (record script { limits = with_setting setting value script.limits })
after_statement script statement.NoLimit = before_steps script (record script { limits = record script.limits { max_keep_alive = negsuc 0 } })
after_statement script (statement.Rule rule) =
    if is_next_rule script.rules rule then before_steps script (record script { rules = script.rules ++ rule ∷ [] }) else None
after_statement script (statement.Step s) = with_step script s

-- the script so far behind further lines
abbrev pub after_lines : Script → List (List ℕ) → Option Script
after_lines script [] = Some script
after_lines script (line ∷ lines) = do
  said ← statement_of line
  next ← after_statement script said
  after_lines next lines

-- the script, with the number of its components
abbrev pub with_parts : Script → Script
with_parts script = record script { limits = record script.limits { parts = parts_of script.rules } }

-- the script of lines of which the first is as it must be
abbrev pub script_of_lines : List (List ℕ) → Option Script
script_of_lines [] = None
script_of_lines (line ∷ lines) = if bytes_eq line first_line then option_map with_parts (after_lines nothing_said lines) else None

-- the script of a text, or none where the text is outside the form
unfoldable pub script_of : List ℕ → Option Script
script_of text = script_of_lines (lines_of text)
