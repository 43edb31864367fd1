use Rattle.std.proofs.Common.{◌∙◌, ◌++◌, ap, string_bytes, sym}
use Rattle.std.specs.List.{flat_map, range_with_len}
use Rattle.cbsrun_text.proofs.Texts.{grown, numbered_more}
use Rattle.cbsrun_timeline.specs.Timelines.{block_text}
use Rattle.cbsrun_timeline.proofs.timeline.append_blocks.Goals as goal

pub loop-block-preserved : goal.loop-block-preserved
loop-block-preserved c =
    let f = block_text c.args.grid.now c.args.servers.now in
    let block = c.loop-block.block in
    grown _ _ _ (flat_map f (range_with_len 0 block)) (f block) c.in_ok-append_block.ensures c.loop-block.invariant
    ∙ ap (λ t. string_bytes c.args.text.now ++ t) (sym (numbered_more f block))
