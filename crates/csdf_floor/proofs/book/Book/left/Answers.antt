use Rattle.std.proofs.Common.{◌≡◌, ◌<◌, ◌≤◌, ◌+◌, ◌++◌, ◌∷◌, [], suc, List, length, get_or, take, ap, sym, subst, ◌∙◌, arith, take-suc, take_all}
use Rattle.std.specs.Prelude.{ℤ}
use Rattle.std.specs.Global.{Vec}
use Rattle.std.proofs.lemmas.List.{map-append}
use Rattle.csdf_core.specs.Ports.{tokens_at}
use Rattle.csdf_floor.specs.Floor.{FloorView, IsKept}
use Rattle.csdf_floor.specs.Inside.{BookView}
use Rattle.csdf_floor.specs.Work.{feeds_in, program}
use Rattle.csdf_floor.proofs.Lefts.{left_shown, left_each}
use Rattle.csdf_floor.proofs.book.Book.left.Goals as goal

pub loop-channel-preserved : goal.loop-channel-preserved
loop-channel-preserved c =
    let f : FloorView = c.args.self.now.shown in
    let kept : IsKept (program f.work) f.core f.journal =
    subst (λ (b : BookView). IsKept (program b.shown.work) b.shown.core b.shown.journal) c.self.view_is c.self.invariant.kept in
    let each = left_each f kept in
    let end : c.channels-channel-end.result ≡ length f.core.plan.channels =
    c.channels-channel-end.ensures.value ∙ ap (λ (b : BookView). length b.shown.core.plan.channels) c.self.view_is in
    let less : c.loop-channel.channel < length f.core.now.tokens = (let test = c.loop-channel-test.true in omega arith) in
    let one : c.in_ok-tokens.tokens.items ≡ get_or f.core.now.tokens c.loop-channel.channel [] =
    c.in_ok-tokens.ensures ∙ ap (λ (b : BookView). tokens_at b.shown.core.now.tokens c.loop-channel.channel) c.self.view_is in
    let next : c.loop-channel.channel + 1 ≡ suc c.loop-channel.channel = omega arith in
    ap feeds_in c.in_ok-push.ensures.items
    ∙ map-append (λ (feed : Vec ℤ). feed.items) c.loop-channel.left.items (c.in_ok-tokens.tokens ∷ [])
    ∙ ap (λ (ts : List (List ℤ)). ts ++ c.in_ok-tokens.tokens.items ∷ []) c.loop-channel.invariant
    ∙ ap (λ (t : List ℤ). take c.loop-channel.channel f.core.now.tokens ++ t ∷ []) one
    ∙ sym (take-suc f.core.now.tokens c.loop-channel.channel [] less)
    ∙ ap (λ n. take n f.core.now.tokens) (sym next)

pub returns : goal.returns
returns c =
    let f : FloorView = c.args.self.now.shown in
    let kept : IsKept (program f.work) f.core f.journal =
    subst (λ (b : BookView). IsKept (program b.shown.work) b.shown.core b.shown.journal) c.self.view_is c.self.invariant.kept in
    let each = left_each f kept in
    let end : c.channels-channel-end.result ≡ length f.core.plan.channels =
    c.channels-channel-end.ensures.value ∙ ap (λ (b : BookView). length b.shown.core.plan.channels) c.self.view_is in
    let all : length f.core.now.tokens ≤ c.loop-channel.channel = (let test = c.loop-channel-test.false in omega arith) in
    c.loop-channel.invariant ∙ take_all c.loop-channel.channel f.core.now.tokens all ∙ left_shown f kept
