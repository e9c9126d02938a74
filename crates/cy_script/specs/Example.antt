-- A script that serves one short answer.
use Rattle.std.specs.Prelude.{ℕ, true, List, [], ◌∷◌, codes}
use Rattle.cy_event.specs.Limits.{standard}
use Rattle.cy_event.specs.declared.steps.Act.TheVariants as act
use Rattle.cy_event.specs.declared.steps.Event.TheVariants as event
use Rattle.cy_event.specs.declared.steps.Step.TheVariants as step
use Rattle.cy_script.specs.declared.script.Script.{Script}

-- it is written so
abbrev pub example_text : List ℕ
example_text = codes "coyote-script 1\n# one answer\nset maxHeaderCount 9\nrule / 0 async\n\nadmit 1\nin 1 \"GET / HTTP/1.1\\r\\nHost: a\\r\\n\\r\\n\"\nrun 1\nact 1 write \"hello\"\nreturn 1\nout 1 65536\nend 1"

-- and says this
abbrev pub example : Script
example = record {
  limits = record (standard 1) { max_fields = 9 };
  rules = record { pattern = codes "/"; part = 0; can_async = true } ∷ [];
  steps =
      step.Admit 1
      ∷ step.On 1 event.In (codes "GET / HTTP/1.1\r\nHost: a\r\n\r\n")
      ∷ step.Run 1
      ∷ step.Act 1 (act.Write 5) (codes "hello")
      ∷ step.Act 1 act.Return []
      ∷ step.On 1 (event.Took 65536) []
      ∷ step.On 1 event.End []
      ∷ [];
}
