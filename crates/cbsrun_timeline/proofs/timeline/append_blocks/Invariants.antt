use Rattle.std.proofs.Common.{◌≡◌, ◌++◌, string_bytes}
use Rattle.std.specs.List.{flat_map, range_with_len}
use Rattle.cbsrun_timeline.specs.Timelines.{block_text}
use Rattle.cbsrun_timeline.proofs.timeline.append_blocks.Given as goal

abbrev pub invariant-loop-block : goal.invariant-loop-block
invariant-loop-block l = string_bytes l.text ≡ string_bytes l.fn.text ++ flat_map (block_text l.grid l.servers) (range_with_len 0 l.block)
