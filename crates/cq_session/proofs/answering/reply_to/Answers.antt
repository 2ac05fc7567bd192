use Rattle.std.proofs.Common.{◌≡◌, Ok, Err, refl, ap, sym, subst, ◌∙◌}
use Rattle.std.proofs.lemmas.Result.{IfOk-weaker, on_err_weaker}
use Rattle.cq_answer.proofs.Asked.{path_asked, scope_asked}
use Rattle.cq_base.specs.declared.settings.Settings.{Settings}
use Rattle.cq_hub.specs.Hubs.{Never}
use Rattle.cq_hub.proofs.Growing.{grows_none}
use Rattle.cq_reply.specs.declared.reply.Reply.TheVariants as reply
use Rattle.cq_request.specs.Reading.{line_says, UnlessMemory}
use Rattle.cq_request.specs.Sound.{IsSound}
use Rattle.cq_request.specs.declared.request.ReadError.{ReadError}
use Rattle.cq_request.specs.declared.request.Request.TheVariants as request
use Rattle.cq_talk.specs.Said.{Read}
use Rattle.cq_talk.proofs.Leading.{lead_weaker}
use Rattle.cq_session.specs.Costs.{AreViewings}
use Rattle.cq_session.proofs.Answered.{some_weaker}
use Rattle.cq_session.proofs.LineCosts.{none_given_up, spends_asking, spends_changing, spends_waiting}
use Rattle.cq_session.proofs.Spending.{spends_none}
use Rattle.cq_session.proofs.Talking.{nothing_done, answers_as, given_up_as}
use Rattle.cq_session.proofs.answering.reply_to.Goals as goal

pub change_reply-requires-clause-says : goal.change_reply-requires-clause-says
change_reply-requires-clause-says g c =
    let says : line_says c.args.server.now.keyer.now.settings.chunk c.args.line.now ≡ Ok (request.Change c.in-Ok-Change.change) = c.in-Ok-Change.ensures.says ∙ ap Ok c.in-Ok-Change.field-0-is in
    record {
      says = subst (λ (s : Settings). line_says s.chunk c.args.line.now ≡ Ok (request.Change c.in-Ok-Change.change)) (sym c.requires.hub_settings) says;
      no_feed = c.requires.no_feed;
      short = c.requires.short;
    }

pub returns-in-Ok-Change-clause-replies : goal.returns-in-Ok-Change-clause-replies
returns-in-Ok-Change-clause-replies g c =
    let says : line_says c.args.server.now.keyer.now.settings.chunk c.args.line.now ≡ Ok (request.Change c.in-Ok-Change.change) = c.in-Ok-Change.ensures.says ∙ ap Ok c.in-Ok-Change.field-0-is in
    IfOk-weaker c.change_reply.result _ _ (λ o all. some_weaker o _ _ (λ r led by h stands closed named. lead_weaker _ _ by _ _ _ _ (led by h stands closed tt)
    (λ later is. answers_as (g.H.Hub.settings c.args.server.now.hub.now) (g.H.Hub.callers c.args.server.now.hub.now) g.H.Hub.alone by (g.P.Keeper.acceptor c.args.server.now.keeper.now by) c.args.seen h later _ r _ _ says
    (is, spends_changing _ g.H.Hub.alone by _ _ _ c.change_reply.ensures.asked (AreViewings (Read (Ok (request.Change c.in-Ok-Change.change))) r) refl h later (g.H.Hub.callers c.args.server.now.hub.now) (g.P.Keeper.acceptor c.args.server.now.keeper.now by) c.in-Ok-Change.change r is))) all) c.change_reply.ensures.replies

pub returns-in-Ok-Change-clause-refused : goal.returns-in-Ok-Change-clause-refused
returns-in-Ok-Change-clause-refused g c =
    let says : line_says c.args.server.now.keyer.now.settings.chunk c.args.line.now ≡ Ok (request.Change c.in-Ok-Change.change) = c.in-Ok-Change.ensures.says ∙ ap Ok c.in-Ok-Change.field-0-is in
    on_err_weaker c.change_reply.result (λ led by h stands closed named. lead_weaker _ _ by _ _ _ _ (led by h stands closed tt)
    (λ later is. given_up_as (g.H.Hub.settings c.args.server.now.hub.now) (g.H.Hub.callers c.args.server.now.hub.now) g.H.Hub.alone by (g.P.Keeper.acceptor c.args.server.now.keeper.now by) c.args.seen h later _ _ _ says
    (is, spends_waiting _ g.H.Hub.alone by _ _ _ c.change_reply.ensures.asked (AreViewings (Read (Ok (request.Change c.in-Ok-Change.change))) reply.Memory) refl h later is))) c.change_reply.ensures.refused

pub kept_query_reply-requires-clause-path : goal.kept_query_reply-requires-clause-path
kept_query_reply-requires-clause-path g c κs lives =
    let sound : IsSound c.args.server.now.keyer.now.settings.chunk (request.Query c.in-Ok-Query.query) = subst (IsSound c.args.server.now.keyer.now.settings.chunk) c.in-Ok-Query.field-0-is c.in-Ok-Query.ensures.sound in
    path_asked c.in-Ok-Query.query.kind c.in-Ok-Query.query.path sound.3

pub kept_query_reply-requires-clause-scope : goal.kept_query_reply-requires-clause-scope
kept_query_reply-requires-clause-scope g c κs lives =
    let sound : IsSound c.args.server.now.keyer.now.settings.chunk (request.Query c.in-Ok-Query.query) = subst (IsSound c.args.server.now.keyer.now.settings.chunk) c.in-Ok-Query.field-0-is c.in-Ok-Query.ensures.sound in
    scope_asked c.in-Ok-Query.query.path c.in-Ok-Query.query.scope sound.4

pub returns-in-Ok-Query-clause-replies : goal.returns-in-Ok-Query-clause-replies
returns-in-Ok-Query-clause-replies g c =
    let says : line_says c.args.server.now.keyer.now.settings.chunk c.args.line.now ≡ Ok (request.Query c.in-Ok-Query.query) = c.in-Ok-Query.ensures.says ∙ ap Ok c.in-Ok-Query.field-0-is in
    IfOk-weaker c.kept_query_reply.result _ _ (λ o all. some_weaker o _ _ (λ r led by h stands closed named. lead_weaker _ _ by _ _ _ _ (led by h stands closed named)
    (λ later is. answers_as (g.H.Hub.settings c.args.server.now.hub.now) (g.H.Hub.callers c.args.server.now.hub.now) g.H.Hub.alone by (g.P.Keeper.acceptor c.args.server.now.keeper.now by) c.args.seen h later _ r _ _ says is)) all) c.kept_query_reply.ensures.replies

pub returns-in-Ok-Query-clause-refused : goal.returns-in-Ok-Query-clause-refused
returns-in-Ok-Query-clause-refused g c =
    let says : line_says c.args.server.now.keyer.now.settings.chunk c.args.line.now ≡ Ok (request.Query c.in-Ok-Query.query) = c.in-Ok-Query.ensures.says ∙ ap Ok c.in-Ok-Query.field-0-is in
    on_err_weaker c.kept_query_reply.result (λ led by h stands closed named. lead_weaker _ _ by _ _ _ _ (led by h stands closed named)
    (λ later is. given_up_as (g.H.Hub.settings c.args.server.now.hub.now) (g.H.Hub.callers c.args.server.now.hub.now) g.H.Hub.alone by (g.P.Keeper.acceptor c.args.server.now.keeper.now by) c.args.seen h later _ _ _ says is)) c.kept_query_reply.ensures.refused

pub returns-in-Ok-State-clause-replies : goal.returns-in-Ok-State-clause-replies
returns-in-Ok-State-clause-replies g c =
    let says : line_says c.args.server.now.keyer.now.settings.chunk c.args.line.now ≡ Ok (request.State) = c.in-Ok-State.ensures.says ∙ ap Ok c.in-Ok-State.field-0-is in
    some_weaker c.state_reply.result _ _ (λ r led by h stands closed named. lead_weaker _ _ by _ _ _ _ (led by h stands closed tt)
    (λ later is. answers_as (g.H.Hub.settings c.args.server.now.hub.now) (g.H.Hub.callers c.args.server.now.hub.now) g.H.Hub.alone by (g.P.Keeper.acceptor c.args.server.now.keeper.now by) c.args.seen h later _ r _ _ says
    (is, spends_asking _ g.H.Hub.alone by _ _ _ c.state_reply.ensures.asked (AreViewings (Read (Ok request.State)) r) refl h later is.asks))) c.state_reply.ensures.replies

pub returns-in-Err-Refused-clause-replies : goal.returns-in-Err-Refused-clause-replies
returns-in-Err-Refused-clause-replies g c =
    let said = line_says c.args.server.now.keyer.now.settings.chunk c.args.line.now in
    let says : said ≡ Err c.in-Err-Refused.refusal = subst (λ (e : ReadError). UnlessMemory (Err e) said) c.in-Err-Refused.field-0-is c.in-Err-Refused.ensures.says in
    λ by h stands closed named. record {
      after = h;
      stands = stands;
      closed = closed;
      holds = answers_as (g.H.Hub.settings c.args.server.now.hub.now) (g.H.Hub.callers c.args.server.now.hub.now) g.H.Hub.alone by (g.P.Keeper.acceptor c.args.server.now.keeper.now by) c.args.seen h h _ (reply.Refused c.in-Err-Refused.refusal) _ _ says
          ((refl, grows_none g.H.Hub.alone by Never h), spends_none _ by (AreViewings (Read (Err c.in-Err-Refused.refusal)) (reply.Refused c.in-Err-Refused.refusal)) h _ _ refl);
    }

pub returns-in-Err-Memory-clause-refused : goal.returns-in-Err-Memory-clause-refused
returns-in-Err-Memory-clause-refused g c = λ by h stands closed named. record {
  after = h;
  stands = stands;
  closed = closed;
  holds = (
    nothing_done (g.H.Hub.settings c.args.server.now.hub.now) (g.H.Hub.callers c.args.server.now.hub.now) g.H.Hub.alone by (g.P.Keeper.acceptor c.args.server.now.keeper.now by) c.args.seen h h (line_says c.args.server.now.keyer.now.settings.chunk c.args.line.now) (grows_none g.H.Hub.alone by Never h),
    spends_none _ by (AreViewings (Read (line_says c.args.server.now.keyer.now.settings.chunk c.args.line.now)) reply.Memory) h _ _ (none_given_up (Read (line_says c.args.server.now.keyer.now.settings.chunk c.args.line.now))),
  );
}
