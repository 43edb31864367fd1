use Rattle.std.proofs.Common.{◌≡◌, ◌<◌, List, Bor, ℕ, length, ◌++◌, ◌+◌, drop, get_or, [], ◌∙◌, ap}
use Rattle.std.proofs.lemmas.Result.{err_from_is_err_and}
use Rattle.std.proofs.lemmas.List.{drop_more}
use Rattle.std.proofs.Math.ListN.{drop_of_length-le}
use Rattle.cbsrun_io.specs.Writers.{joined}
use Rattle.cbsrun_io.proofs.WrittenText.{part_goes_on, part_ends, part_done}
use Rattle.cbsrun_io.proofs.output.write_pieces.Goals as goal

split : (xs : List (Bor (List ℕ))) (i : ℕ) (text : List ℕ) → i < length xs → text ≡ (get_or xs i (record { ref_ptr = (0, 0); now = [] })).now
    → joined (drop i xs) ≡ text ++ joined (drop (i + 1) xs)
split xs i text lt is = rw (drop_more xs i (record { ref_ptr = (0, 0); now = [] }) lt, is)

pub loop-piece-preserved : goal.loop-piece-preserved
loop-piece-preserved g c = record {
  so_far = part_goes_on _ _ _ c.as_bytes.result.now _ _ _ (split c.args.pieces.now c.loop-piece.piece-index c.as_bytes.result.now
      c.loop-piece-test.true c.as_bytes.ensures.value) c.loop-piece.invariant.so_far c.in_ok-write_text.ensures.ok.0;
  none_failed = c.in_ok-write_text.ensures.ok.1 ∙ c.loop-piece.invariant.none_failed;
}

pub returns-in_err-write_text-clause-err : goal.returns-in_err-write_text-clause-err
returns-in_err-write_text-clause-err g c =
    let p = err_from_is_err_and c.from_residual.result c.from_residual.ensures.1 in
    rw p.1 (
      c.in_err-write_text.ensures.err.0 ∙ ap (λ n. n + 1) c.loop-piece.invariant.none_failed,
      part_ends _ _ _ c.as_bytes.result.now _ _ _ (split c.args.pieces.now c.loop-piece.piece-index c.as_bytes.result.now
          c.loop-piece-test.true c.as_bytes.ensures.value) c.loop-piece.invariant.so_far c.in_err-write_text.ensures.err.1,
    )

pub returns-clause-ok : goal.returns-clause-ok
returns-clause-ok g c =
    (part_done _ _ _ _ (rw (drop_of_length-le c.args.pieces.now c.loop-piece-test.false)) c.loop-piece.invariant.so_far, c.loop-piece.invariant.none_failed)
