use Rattle.cbs_embed.proofs.in_time.done.Goals as goal

pub returns : goal.returns
returns c = record {
  pays = c.done.ensures.pays;
  kept = c.done.ensures.kept;
  ahead = c.done.ensures.ahead;
  timed = c.done.ensures.timed;
}
