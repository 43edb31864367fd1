use Rattle.std.proofs.Common.{◌≡◌, ◌++◌, ◌+◌, [], sym, ap, ◌∙◌, string_bytes, arith}
use Rattle.std.proofs.lemmas.Grind.{common_steps}
use Rattle.std.proofs.lemmas.List.{append-nil}
use Rattle.std.proofs.lemmas.Result.{err_from_is_err_and, on_ok_weaker, on_err_weaker}
use Rattle.cbsrun_io.proofs.WrittenText.{part_goes_on, part_ends, waits_too, front_more}
use Rattle.cbsrun_io.proofs.pending.Pending.push.Goals as goal

pub returns-in_err-make_room-clause-err : goal.returns-in_err-make_room-clause-err
returns-in_err-make_room-clause-err g c =
    let p = err_from_is_err_and c.from_residual.result c.from_residual.ensures.1 in
    rw p.1 (c.in_err-make_room.ensures.err.0, front_more _ _ _ _ c.in_err-make_room.ensures.err.1)

pub returns-in_err-flush-clause-err : goal.returns-in_err-flush-clause-err
returns-in_err-flush-clause-err g c =
    let p = err_from_is_err_and c.from_residual-in_err-flush.result c.from_residual-in_err-flush.ensures.1 in
    let so_far = waits_too _ _ _ _ c.args.text.now c.in_ok-make_room.ensures.ok.0 in
    let kept : c.make_room.new.self ≡ string_bytes c.push_str.new.self = sym (c.in-Err.ensures.bytes ∙ c.self.view_is) in
    rw p.1 (
      c.in_err-flush.ensures.err.0 ∙ ap (λ n. n + 1) c.in_ok-make_room.ensures.ok.1,
      part_ends _ _ _ _ c.args.text.now _ _ (ap (λ t. t ++ c.args.text.now) kept) so_far c.in_err-flush.ensures.err.1,
    )

pub returns-clause-ok : goal.returns-clause-ok
returns-clause-ok g c =
    let so_far = waits_too _ _ _ _ c.args.text.now c.in_ok-make_room.ensures.ok.0 in
    let kept : c.make_room.new.self ≡ string_bytes c.push_str.new.self = sym (c.in-Err.ensures.bytes ∙ c.self.view_is) in
    let flushed = part_goes_on _ _ _ _ c.args.text.now _ _ (ap (λ t. t ++ c.args.text.now) kept) so_far c.in_ok-flush.ensures.ok.0.0 in
    let whole : c.args.text.now ≡ c.as_bytes.result.now ++ [] = sym (append-nil c.as_bytes.result.now ∙ c.as_bytes.ensures.value) in
    let none : c.flush.new.self ≡ [] = c.in_ok-flush.ensures.ok.1 in
    on_ok_weaker c.write_text.result (λ wrote. (
      rw none (part_goes_on _ _ _ _ [] _ _ whole flushed wrote.0),
      wrote.1 ∙ (c.in_ok-flush.ensures.ok.0.1 ∙ c.in_ok-make_room.ensures.ok.1),
    )) c.write_text.ensures.ok

pub returns-clause-err : goal.returns-clause-err
returns-clause-err g c =
    let so_far = waits_too _ _ _ _ c.args.text.now c.in_ok-make_room.ensures.ok.0 in
    let kept : c.make_room.new.self ≡ string_bytes c.push_str.new.self = sym (c.in-Err.ensures.bytes ∙ c.self.view_is) in
    let flushed = part_goes_on _ _ _ _ c.args.text.now _ _ (ap (λ t. t ++ c.args.text.now) kept) so_far c.in_ok-flush.ensures.ok.0.0 in
    let whole : c.args.text.now ≡ c.as_bytes.result.now ++ [] = sym (append-nil c.as_bytes.result.now ∙ c.as_bytes.ensures.value) in
    on_err_weaker c.write_text.result (λ wrote. (
      wrote.0 ∙ ap (λ n. n + 1) (c.in_ok-flush.ensures.ok.0.1 ∙ c.in_ok-make_room.ensures.ok.1),
      part_ends _ _ _ _ [] _ _ whole flushed wrote.1,
    )) c.write_text.ensures.err

pub flush-requires : goal.flush-requires
flush-requires g c = grind (arith, common_steps)

pub write_text-requires : goal.write_text-requires
write_text-requires g c = grind (arith, common_steps)
