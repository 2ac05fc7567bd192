use Rattle.std.proofs.Common.{sym, subst, arith}
use Rattle.std.proofs.lemmas.Result.{IfOk-weaker}
use Rattle.cq_answer.specs.Parts.{HasScope}
use Rattle.cq_request.specs.declared.request.Query.{Query}
use Rattle.cq_talk.proofs.Leading.{lead_weaker}
use Rattle.cq_make.proofs.Asked.{answered_by}
use Rattle.cq_make.proofs.asking.reply_of.Goals as goal

pub query_reply-requires-clause-scope : goal.query_reply-requires-clause-scope
query_reply-requires-clause-scope g c κs lives = subst (λ (q : Query). HasScope q.path q.scope) (sym c.in_ok-query.ensures) (tt, tt)

pub returns : goal.returns
returns g c = record {
  reply = IfOk-weaker c.query_reply.result _ _ (λ reply led by h stands closed always. lead_weaker _ _ by _ _ _ _ (led by h stands closed (omega arith))
      (λ later is. answered_by _ c.args.server.now.keyer.now.settings by h c.in_ok-query.query c.args.kind reply later c.requires.hub_settings c.in_ok-query.ensures is.0)) c.query_reply.ensures.replies;
}
