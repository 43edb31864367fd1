use Rattle.cbs_pacer.proofs.Named.{paces_names}
use Rattle.cbs_embed.specs.Jobs.{counting}
use Rattle.cbs_embed.proofs.in_time.next.Goals as goal

pub token_told-token-requires : goal.token_told-token-requires
token_told-token-requires c =
    let n = c.next-next in paces_names counting _ _ _ _ n.new.house n.result n.ensures.paces

pub returns : goal.returns
returns c =
    let n = c.next-next in
    record {
      between = n.new.house;
      paces = n.ensures.paces;
      ahead = n.ensures.ahead;
      timed = n.ensures.timed;
      named = c.token_told-token.ensures.named;
      taken = c.taken-taken.ensures;
      drops = c.token_told-token.ensures.drops;
    }
