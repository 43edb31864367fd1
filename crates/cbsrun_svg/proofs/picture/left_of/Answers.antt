use Rattle.std.proofs.Common.{◌∙◌, arith, ap, length, sym, take}
use Rattle.std.specs.Prelude.{max}
use Rattle.cbsrun_svg.specs.Pictures.{left_of, words_width}
use Rattle.cbsrun_svg.proofs.Frames.{left_next}
use Rattle.cbsrun_svg.proofs.picture.left_of.Goals as goal

pub loop-server-preserved : goal.loop-server-preserved
loop-server-preserved c =
    let n = c.args.nanoseconds in
    let i = c.loop-server.server-index in
    let ds = c.args.servers.now in
    let d = c.server-item.result in
    record {
      value = c.max-left.ensures ∙ (ap (λ x. max x c.loop-server.left) c.in_ok-words_width.ensures.value
          ∙ (ap (λ x. max (words_width n (length ds) d) x) c.loop-server.invariant.value
          ∙ (ap (λ y. max (words_width n (length ds) y) (left_of n (length ds) (take i ds))) c.server-item.is
          ∙ sym (left_next n (length ds) ds i d c.loop-server-test.true))));
      small = omega (arith, c.max-left.ensures, c.in_ok-words_width.ensures.small, c.loop-server.invariant.small);
    }
