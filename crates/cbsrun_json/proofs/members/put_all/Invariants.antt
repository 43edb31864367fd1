use Rattle.std.proofs.Common.{◌≡◌, map, take}
use Rattle.serde_json.specs.View.{members_view}
use Rattle.cbsrun_json.specs.Members.{member_of, with_members}
use Rattle.cbsrun_json.proofs.members.put_all.Given as goal

abbrev pub invariant-loop-member : goal.invariant-loop-member
invariant-loop-member g l = members_view l.members.entries
    ≡ with_members (map (member_of g.T.ToJson.shown) (take l.member-index l.more)) (members_view l.fn.members.entries)
