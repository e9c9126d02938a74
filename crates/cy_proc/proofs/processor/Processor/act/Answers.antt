-- What is left to show of `Processor::act`.
use Rattle.std.proofs.Common.{◌≤◌, ◌++◌, length, sym, ap, refl, ◌∙◌, subst, take, drop}
use Rattle.cy_event.specs.declared.steps.Act.{Act}
use Rattle.cy_event.specs.declared.steps.Reply.TheVariants as reply
use Rattle.cy_model.specs.Entries.{callback_reply, rested_callback}
use Rattle.cy_model.specs.Replies.{replied_in}
use Rattle.cy_model.specs.Steps.{IsWithinBytes}
use Rattle.cy_proc.specs.LineChanges.{after_rest, at_moment, work_of}
use Rattle.cy_proc.specs.Lines.{LineParts}
use Rattle.cy_proc.specs.ProcessorAnswers.{Answers, IsReadInto}
use Rattle.cy_proc.specs.ProcessorChanges.{line_read}
use Rattle.cy_proc.specs.Processors.{ProcessorParts, is_open_at}
use Rattle.cy_proc.proofs.ActParts.{write_by}
use Rattle.cy_proc.proofs.ReturnParts.{return_answers}
use Rattle.cy_proc.proofs.ReadParts.{gives_into, read_buffer, read_moment, read_open, read_work}
use Rattle.cy_proc.proofs.processor.Processor.act.Goals as goal

pub returns-in-Read-clause-answers : goal.returns-in-Read-clause-answers
returns-in-Read-clause-answers c = λ T s.
    subst (λ (a : Act). Answers T (callback_reply c.read.new.self.limits T a) (rested_callback c.read.new.self.limits c.read.new.line.moment T a c.args.bytes.now) (replied_in c.read.result (c.read.new.into ++ drop c.in-Read.count c.args.into.now)) c.read.new.line c.read.new.self) (sym c.in-Read.is)
    (read_buffer c.args.at c.in-Read.count c.args.bytes.now c.args.into.now c.read.new.into T c.args.line.now c.advance.new.self c.read.new.line c.args.self.now c.read.new.self c.read.result
    (sym (ap (λ (p : ProcessorParts). p.stage) c.self.view_is) ∙ c.in-Serving.is) (subst (λ (a : Act). IsReadInto a c.args.into.now) c.in-Read.is c.requires.into) s c.advance.ensures
    c.read.ensures.reply c.read.ensures.into c.read.ensures.line c.read.ensures.same)

pub returns-in-Read-clause-together : goal.returns-in-Read-clause-together
returns-in-Read-clause-together c =
    ap (λ (l : LineParts). l.is_open) c.read.ensures.line
    ∙ read_open c.args.self.now.limits (length (take c.in-Read.count c.args.into.now)) c.advance.new.self
    ∙ ap (λ (l : LineParts). l.is_open) c.advance.ensures
    ∙ c.requires.line
    ∙ sym (ap (λ (p : ProcessorParts). is_open_at p.stage) c.read.ensures.same ∙ c.requires.open)

pub returns-in-Read-clause-work : goal.returns-in-Read-clause-work
returns-in-Read-clause-work c =
    subst (λ (l : LineParts). work_of l ≤ work_of c.args.line.now) (sym c.read.ensures.line)
    (subst (λ (l : LineParts). work_of (line_read c.args.self.now.limits (length (take c.in-Read.count c.args.into.now)) l) ≤ work_of c.args.line.now) (sym c.advance.ensures)
    (read_work c.args.self.now.limits (length (take c.in-Read.count c.args.into.now)) (at_moment c.args.at c.args.line.now)))

pub returns-in-Read-clause-moment : goal.returns-in-Read-clause-moment
returns-in-Read-clause-moment c =
    ap (λ (l : LineParts). l.moment) c.read.ensures.line
    ∙ read_moment c.args.self.now.limits (length (take c.in-Read.count c.args.into.now)) c.advance.new.self
    ∙ ap (λ (l : LineParts). l.moment) c.advance.ensures

pub returns-in-Read-clause-into : goal.returns-in-Read-clause-into
returns-in-Read-clause-into c =
    gives_into c.in-Read.count c.args.into.now c.read.new.into c.advance.new.self (subst (λ (a : Act). IsReadInto a c.args.into.now) c.in-Read.is c.requires.into) c.read.ensures.into c.read.result c.read.ensures.reply

pub returns-in-Write-clause-answers : goal.returns-in-Write-clause-answers
returns-in-Write-clause-answers c = λ T s.
    subst (λ (a : Act). Answers T (callback_reply c.write.new.self.limits T a) (rested_callback c.write.new.self.limits c.advance.new.self.moment T a c.args.bytes.now) (replied_in c.write.result c.args.into.now) c.advance.new.self c.write.new.self) (sym c.in-Write.is)
    (write_by c.write.new.self.limits c.args.at c.in-Write.count c.args.bytes.now (take c.in-Write.count c.args.bytes.now) c.args.into.now T c.args.line.now c.advance.new.self c.args.self.now c.write.new.self c.write.result
    (sym (ap (λ (p : ProcessorParts). p.stage) c.self.view_is) ∙ c.in-Serving.is) (subst (λ (a : Act). IsWithinBytes a c.args.bytes.now) c.in-Write.is c.requires.within) s c.advance.ensures refl c.write.ensures.reply c.write.ensures.parts)

pub returns-in-Return-clause-answers : goal.returns-in-Return-clause-answers
returns-in-Return-clause-answers c = λ T s.
    subst (λ (a : Act). Answers T (callback_reply c.finish.new.self.limits T a) (rested_callback c.finish.new.self.limits c.rest.new.self.moment T a c.args.bytes.now) (replied_in reply.Done c.args.into.now) c.rest.new.self c.finish.new.self) (sym c.in-Return.is)
    (return_answers c.finish.new.self.limits c.args.at c.args.bytes.now c.args.into.now T c.args.line.now c.advance.new.self c.finish.new.line c.rest.new.self c.args.self.now c.finish.new.self
    (sym (ap (λ (p : ProcessorParts). p.stage) c.self.view_is) ∙ c.in-Serving.is) s c.advance.ensures c.finish.ensures.line c.finish.ensures.request (c.rest.ensures ∙ ap (λ (p : ProcessorParts). after_rest p.limits c.finish.new.line) c.self-in-Return.view_is))
