-- The lines of a text, their words, and how a line says what it says.
use Rattle.std.specs.Prelude.{◌≡◌, ℕ, ◌<◌, ◌≤◌, ◌^◌, ◌⊎◌, Bool, true, false, not, ◌==◌, List, [], ◌∷◌, ◌++◌, length, codes, Some}
use Rattle.std.specs.List.{list_all, flat_map, join_with_byte}
use Rattle.cy_bytes.specs.Numbers.{decimal_of}
use Rattle.cy_bytes.specs.Quoting.{IsSpelling}
use Rattle.cy_event.specs.declared.steps.Act.TheVariants as act
use Rattle.cy_event.specs.declared.steps.Event.TheVariants as event
use Rattle.cy_event.specs.declared.steps.Step.{Step}
use Rattle.cy_event.specs.declared.steps.TheConstants.{GREATEST_READ}
use Rattle.cy_event.specs.declared.steps.Step.TheVariants as step
use Rattle.cy_script.specs.declared.statements.Statement.{Statement}
use Rattle.cy_script.specs.declared.statements.Statement.TheVariants as statement
use Rattle.cy_script.specs.Settings.{IsInRange}
use Rattle.cy_settings.specs.Limits.{limit_name}
use Rattle.cy_settings.specs.Rules.{most_part}

abbrev pub line_feed : ℕ
line_feed = 10

abbrev pub space : ℕ
space = 32

-- the byte stands nowhere in the text
abbrev pub lacks : ℕ → List ℕ → Bool
lacks byte text = list_all (λ b. not (b == byte)) text

-- ---- lines

-- lines one after another, each with its line feed
abbrev pub ended : List (List ℕ) → List ℕ
ended lines = flat_map (λ line. line ++ line_feed ∷ []) lines

-- The text has these lines. The last may lack its line feed.
pub record HasLines (text : List ℕ) (lines : List (List ℕ)) : Type 0 where
  pub whole : list_all (lacks line_feed) lines ≡ true
  pub parts : (text ≡ ended lines) ⊎ (text ++ line_feed ∷ [] ≡ ended lines)

-- ---- words

-- words one after another, with a space between each two
abbrev pub spaced : List (List ℕ) → List ℕ
spaced words = join_with_byte space words

-- the word writes the number
abbrev pub IsNumber : List ℕ → ℕ → Type 0
IsNumber word n = decimal_of word ≡ Some n

-- a text between quotation marks that spells the bytes
abbrev pub IsQuoted : List ℕ → List ℕ → Type 0
IsQuoted quoted bytes = (text : List ℕ) × IsSpelling text bytes × (quoted ≡ codes "\"" ++ text ++ codes "\"")

-- ---- steps

-- the line has these words, a number's word, and further words
abbrev pub HasNumber : List ℕ → List (List ℕ) → ℕ → List (List ℕ) → Type 0
HasNumber line before n after = (word : List ℕ) × IsNumber word n × (line ≡ spaced (before ++ word ∷ after))

-- the line is the step as it is written; some steps have no line yet
abbrev pub IsStepLine : List ℕ → Step → Type 0
IsStepLine line (step.At moment) = ⊥
IsStepLine line (step.Admit conn) = HasNumber line (codes "admit" ∷ []) conn []
IsStepLine line (step.On conn event.In bytes) =
    (quoted : List ℕ) × IsQuoted quoted bytes × HasNumber line (codes "in" ∷ []) conn (quoted ∷ [])
IsStepLine line (step.On conn event.End bytes) = HasNumber line (codes "end" ∷ []) conn [] × (bytes ≡ [])
IsStepLine line (step.On conn (event.Took n) bytes) =
    (taken : List ℕ) × IsNumber taken n × HasNumber line (codes "out" ∷ []) conn (taken ∷ []) × (bytes ≡ [])
IsStepLine line (step.Run conn) = HasNumber line (codes "run" ∷ []) conn []
IsStepLine line (step.Act conn (act.Read n) bytes) =
    (count : List ℕ) × IsNumber count n × HasNumber line (codes "act" ∷ []) conn (codes "read" ∷ count ∷ []) × (n ≤ GREATEST_READ) × (bytes ≡ [])
IsStepLine line (step.Act conn (act.Write n) bytes) =
    (quoted : List ℕ) × IsQuoted quoted bytes × HasNumber line (codes "act" ∷ []) conn (codes "write" ∷ quoted ∷ []) × (n ≡ length bytes) × (n < 2 ^ 32)
IsStepLine line (step.Act conn act.Return bytes) = HasNumber line (codes "return" ∷ []) conn [] × (bytes ≡ [])

-- ---- rules

abbrev pub async_word : Bool → List ℕ
async_word true = codes "async"
async_word false = codes "sync"

-- ---- statements

-- the line is the statement as it is written
abbrev pub IsWritten : Statement → List ℕ → Type 0
IsWritten statement.Nothing line = (line ≡ []) ⊎ ((comment : List ℕ) × (line ≡ codes "#" ++ comment))
IsWritten (statement.Set setting value) line = IsInRange setting value × HasNumber line (codes "set" ∷ limit_name setting ∷ []) value []
IsWritten statement.NoLimit line = line ≡ codes "set maxKeepAliveRequests -1"
IsWritten (statement.Rule rule) line =
    (lacks space rule.pattern ≡ true) × (rule.part ≤ most_part) × HasNumber line (codes "rule" ∷ rule.pattern ∷ []) rule.part (async_word rule.can_async ∷ [])
IsWritten (statement.Step s) line = IsStepLine line s
