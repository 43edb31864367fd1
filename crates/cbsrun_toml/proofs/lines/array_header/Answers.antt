use Rattle.std.proofs.Common.{◌≡◌, ◌==◌, true, false, Some, refl, arith}
use Rattle.std.specs.Prelude.{drop, slice_index}
use Rattle.std.proofs.lemmas.Grind.{common_steps}
use Rattle.toml_parser.specs.Lexical.{first, skip_ws}
use Rattle.toml_parser.specs.Reading.{key_view}
use Rattle.toml_parser.specs.Strings.{key}
use Rattle.toml.specs.Parse.{ends_line}
use Rattle.cbsrun_toml.proofs.LineReads.{header_no_key, header_open, header_half_open, header_no_end, header_line}
use Rattle.cbsrun_toml_tokens.proofs.Results.{gives_err}
use Rattle.cbsrun_toml.proofs.lines.array_header.Goals as goal
use Rattle.cbsrun_toml.proofs.lines.array_header.Goals.{then-first-ne93-via-then-first-ne93, then-first-ne93-via-else-first-ne93+then-byte_at-ne93}

pub returns-in_err-key-clause-value : goal.returns-in_err-key-clause-value
returns-in_err-key-clause-value c =
    let opens : (first c.args.s.now == 91) ≡ true = grind (arith, common_steps) in
    let again : (slice_index c.args.s.now 1 == 91) ≡ true = grind (arith, common_steps) in
    let from : c.skip_ws.result.now ≡ skip_ws (drop 2 c.args.s.now) = rw (c.skip_ws.ensures.rest, c.skip.ensures.rest) refl in
    gives_err _ c.from_residual.result _ c.in_err-key.field-0.0 _ c.from_residual.ensures.1 (λ y p. p) λ refused.
    header_no_key c.args.s.now opens again (rw from at (c.in_err-key.ensures.value refused))

pub returns-then-first-ne93-clause-value : goal.returns-then-first-ne93-clause-value
returns-then-first-ne93-clause-value c e =
    let opens : (first c.args.s.now == 91) ≡ true = grind (arith, common_steps) in
    let again : (slice_index c.args.s.now 1 == 91) ≡ true = grind (arith, common_steps) in
    let from : c.skip_ws.result.now ≡ skip_ws (drop 2 c.args.s.now) = rw (c.skip_ws.ensures.rest, c.skip.ensures.rest) refl in
    let read : key (skip_ws (drop 2 c.args.s.now)) ≡ Some (key_view c.in_ok-key.key, c.in_ok-key.closing.now) = rw from at c.in_ok-key.ensures.value in
    elim c.then-first-ne93.branch [
      | then-first-ne93-via-then-first-ne93 w ↦
          let other : (first c.in_ok-key.closing.now == 93) ≡ false = grind (arith, common_steps) in
          header_open c.args.s.now opens again (key_view c.in_ok-key.key) _ read other
      | then-first-ne93-via-else-first-ne93+then-byte_at-ne93 w ↦
          let closes : (first c.in_ok-key.closing.now == 93) ≡ true = grind (arith, common_steps) in
          let other : (slice_index c.in_ok-key.closing.now 1 == 93) ≡ false = grind (arith, common_steps) in
          header_half_open c.args.s.now opens again (key_view c.in_ok-key.key) _ read closes other
    ]

pub returns-then-not-ends_line-clause-value : goal.returns-then-not-ends_line-clause-value
returns-then-not-ends_line-clause-value c e =
    let opens : (first c.args.s.now == 91) ≡ true = grind (arith, common_steps) in
    let again : (slice_index c.args.s.now 1 == 91) ≡ true = grind (arith, common_steps) in
    let from : c.skip_ws.result.now ≡ skip_ws (drop 2 c.args.s.now) = rw (c.skip_ws.ensures.rest, c.skip.ensures.rest) refl in
    let read : key (skip_ws (drop 2 c.args.s.now)) ≡ Some (key_view c.in_ok-key.key, c.in_ok-key.closing.now) = rw from at c.in_ok-key.ensures.value in
    let closes : (first c.in_ok-key.closing.now == 93) ≡ true = grind (arith, common_steps) in
    let twice : (slice_index c.in_ok-key.closing.now 1 == 93) ≡ true = grind (arith, common_steps) in
    let end : ends_line (skip_ws (drop 2 c.in_ok-key.closing.now)) ≡ false =
    rw (← c.skip-after.ensures.rest, ← c.skip_ws-2.ensures.rest, ← c.ends_line.ensures) c.if-not-ends_line.true in
    header_no_end c.args.s.now opens again (key_view c.in_ok-key.key) _ read closes twice end

pub returns-clause-value : goal.returns-clause-value
returns-clause-value c =
    let opens : (first c.args.s.now == 91) ≡ true = grind (arith, common_steps) in
    let again : (slice_index c.args.s.now 1 == 91) ≡ true = grind (arith, common_steps) in
    let from : c.skip_ws.result.now ≡ skip_ws (drop 2 c.args.s.now) = rw (c.skip_ws.ensures.rest, c.skip.ensures.rest) refl in
    let read : key (skip_ws (drop 2 c.args.s.now)) ≡ Some (key_view c.in_ok-key.key, c.in_ok-key.closing.now) = rw from at c.in_ok-key.ensures.value in
    let closes : (first c.in_ok-key.closing.now == 93) ≡ true = grind (arith, common_steps) in
    let twice : (slice_index c.in_ok-key.closing.now 1 == 93) ≡ true = grind (arith, common_steps) in
    let end : ends_line (skip_ws (drop 2 c.in_ok-key.closing.now)) ≡ true =
    rw (← c.skip-after.ensures.rest, ← c.skip_ws-2.ensures.rest, ← c.ends_line.ensures) c.if-not-ends_line.false in
    rw (← c.in_ok-key-2.ensures.key, c.skip-after.ensures.rest) (header_line c.args.s.now opens again (key_view c.in_ok-key.key) _ read closes twice end)
