-- What is left to show of `write_all`.
use Rattle.std.proofs.Common.{◌≡◌, ◌∙◌, ◌-◌, length, take, drop, subst, arith, length-drop, take_all}
use Rattle.std.specs.Io.KnownBytes.{Appends}
use Rattle.cyctl.proofs.Streams.{Appends-further}
use Rattle.cyctl.proofs.output.write_all.Goals as goal

pub loop-written-preserved : goal.loop-written-preserved
loop-written-preserved g c =
    let text = c.args.text.now in
    let done = c.loop-written.written in
    let n = c.in-Took.count in
    let rest : take (length text - done) (drop done text) ≡ drop done text = take_all _ _ (omega (arith, length-drop done text)) in
    let more : Appends (g.K.Sink.held c.loop-written.sink) (g.K.Sink.held c.write.new.self) (take n (drop done text)) =
    subst (λ l. Appends (g.K.Sink.held c.loop-written.sink) (g.K.Sink.held c.write.new.self) (take n l)) rest c.in-Took.ensures.moves in
    record {
      within = omega (arith, c.in-Took.ensures.within);
      bytes = Appends-further _ _ _ text done n c.loop-written.invariant.bytes more;
      same = c.in-Took.ensures.cause ∙ c.loop-written.invariant.same;
    }
