use Rattle.std.proofs.Common.{◌≡◌, ◌<◌, refl, drop, length, append-nil, append_assoc, arith}
use Rattle.cbsrun_time_texts.specs.Texts.{places}
use Rattle.cbsrun_time_texts.proofs.Places.{digit_at, no_digits, no_places}
use Rattle.cbsrun_time_texts.proofs.text.append_digits.Goals as goal

pub returns-then-left-eq0 : goal.returns-then-left-eq0
returns-then-left-eq0 c =
    let done = no_digits (drop c.loop-place.place-index places) c.loop-place.left c.if-left-eq0.true in
    rw (done, append-nil) at c.loop-place.invariant.digits

pub loop-place-preserved : goal.loop-place-preserved
loop-place-preserved c =
    let inside : c.loop-place.place-index < length places = omega (arith, c.loop-place-test.true) in
    let one = digit_at places c.loop-place.place-index c.loop-place.left inside c.if-left-eq0.false in
    record {
      items = refl;
      digits = rw (c.in_ok-push_str.ensures.bytes, c.format.ensures.text, append_assoc, ← one) c.loop-place.invariant.digits;
    }

pub returns : goal.returns
returns c =
    let all : c.loop-place.place-index ≡ length places = omega (arith, c.loop-place-test.false, c.loop-place.auto.place-index-end) in
    rw (all, no_places c.loop-place.left, append-nil) at c.loop-place.invariant.digits
