use Rattle.cbsrun_json.specs.Members.{member_of}
use Rattle.cbsrun_json.proofs.Putting.{put_next}
use Rattle.cbsrun_json.proofs.members.put_all.Goals as goal

pub loop-member-preserved : goal.loop-member-preserved
loop-member-preserved g c =
    put_next (member_of g.T.ToJson.shown) c.args.more.now c.loop-member.member-index _ c.member-item.result _ _ _ _ c.loop-member-test.true c.member-item.is
    c.in_ok-put.ensures.ok c.in_ok-value.ensures c.loop-member.invariant
