use Rattle.std.proofs.Common.{map, ◌∙◌, ap, sym, rules}
use Rattle.std.proofs.lemmas.Simd.{map-map}
use Rattle.cbs_clients.specs.Clients.{server_of}
use Rattle.cbs_house.specs.Feeds.{client_of}
use Rattle.cbs_house.proofs.Feeds.{feeds_unused, ready_new}
use Rattle.cbs_house.proofs.open.open_feeds.Goals as goal

pub returns-in-Ok-feeds_of-clause-servers : goal.returns-in-Ok-feeds_of-clause-servers
returns-in-Ok-feeds_of-clause-servers g c =
    sym (map-map server_of client_of c.in-Ok-feeds_of.feeds.items) ∙ (ap (map server_of) c.in-Ok-feeds_of.ensures.clients ∙ c.in-Ok.ensures.clients)

pub returns-in-Ok-feeds_of-clause-unused : goal.returns-in-Ok-feeds_of-clause-unused
returns-in-Ok-feeds_of-clause-unused g c =
    feeds_unused c.args.ring c.in-Ok-feeds_of.feeds.items c.in-Ok.clients.items c.in-Ok-feeds_of.ensures.clients c.in-Ok.ensures.unused

pub returns-in-Ok-feeds_of-clause-ready : goal.returns-in-Ok-feeds_of-clause-ready
returns-in-Ok-feeds_of-clause-ready g c =
    ready_new c.in-Ok.house c.in-Ok-feeds_of.feeds.items c.in-Ok.clients.items c.in-Ok-feeds_of.ensures.clients c.in-Ok.ensures.count.1 c.in-Ok.ensures.together

pub returns-in-Ok-feeds_of-clause-jobs : goal.returns-in-Ok-feeds_of-clause-jobs
returns-in-Ok-feeds_of-clause-jobs g c = c.in-Ok-feeds_of.ensures.jobs

pub returns-in-Err-feeds_of-clause-jobs : goal.returns-in-Err-feeds_of-clause-jobs
returns-in-Err-feeds_of-clause-jobs g c = c.in-Err-feeds_of.ensures.jobs

pub returns-in-Err-clause-refusal : goal.returns-in-Err-clause-refusal
returns-in-Err-clause-refusal g c = search rules
