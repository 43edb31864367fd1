use Rattle.cbs_embed.proofs.in_time.done_measured.Goals as goal

pub returns : goal.returns
returns c = record {
  pays = c.done_measured.ensures.pays;
  kept = c.done_measured.ensures.kept;
  ahead = c.done_measured.ensures.ahead;
  timed = c.done_measured.ensures.timed;
}
