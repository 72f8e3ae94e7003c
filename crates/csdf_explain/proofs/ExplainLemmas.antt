-- The text of a stall and of a channel that is not balanced, by what the code has seen of a graph.
use Rattle.std.proofs.Common.{◌≡◌, ℕ, ◌<◌, ◌++◌, List, length, get_or, map, refl, ap, sym, ◌∙◌, arith}
use Rattle.std.proofs.lemmas.List.{append_assoc, get_or-map, length-map}
use Rattle.std.proofs.lemmas.Option.{slice_get_read}
use Rattle.csdf_model.specs.declared.parts.Channel.{Channel as ChannelCode}
use Rattle.csdf_model.specs.Graph.{Channel, Graph, channel_view}
use Rattle.csdf_analysis.specs.declared.demand.Demand.{Demand}
use Rattle.csdf_analysis.specs.Demands.{IsDemand}
use Rattle.csdf_explain.specs.declared.stalled.Stalled.{Stalled}
use Rattle.csdf_explain.specs.Circle.{circle, waiting_but}
use Rattle.csdf_answers.specs.Described.{actor_names}
use Rattle.csdf_explain.specs.Explained.{TellsDemand, unbalanced_text}
use Rattle.csdf_answers.specs.Printed.{names_of, name_at}
use Rattle.csdf_explain.specs.Stalled.{circle_text, others_text, waits_text}

-- the circle and the others one after the other
pub waits_told : (s : Stalled) (these others before mid text : List ℕ) → these ≡ circle s.graph.channels s.stall.waits.items
    → others ≡ waiting_but these 0 s.stall.waits.items → mid ≡ before ++ circle_text s these → text ≡ mid ++ others_text s others
    → text ≡ before ++ waits_text s
waits_told s these others before mid text these_is others_is mid_is told =
    told ∙ ap (λ t. t ++ others_text s others) mid_is ∙ append_assoc before (circle_text s these) (others_text s others)
    ∙ ap (λ them. before ++ (circle_text s these ++ others_text s them)) others_is
    ∙ ap (λ them. before ++ (circle_text s them ++ others_text s (waiting_but them 0 s.stall.waits.items))) these_is

-- a text behind another, in two pieces
pub in_two : (before first second mid text : List ℕ) → mid ≡ before ++ first → text ≡ mid ++ second → text ≡ before ++ (first ++ second)
in_two before first second mid text mid_is told = told ∙ ap (λ t. t ++ second) mid_is ∙ append_assoc before first second

pub unbalanced_told : (g : Graph) (channels : List ChannelCode) (c : ℕ) (channel : ChannelCode) (d : Demand) (text name from to : List ℕ)
    → c < length g.channels → channel ≡ get_or channels c channel → map channel_view channels ≡ g.channels → IsDemand g.actors g.channels c d
    → name ≡ name_at (names_of g.channels) c → from ≡ name_at (actor_names g.actors) channel.from → to ≡ name_at (actor_names g.actors) channel.to
    → text ≡ unbalanced_text name from to d → TellsDemand g c text
unbalanced_told g channels c channel d text name from to within is seen asks name_is from_is to_is told =
    let lt : c < length channels = omega (arith, within, ap length seen, length-map channels channel_view) in
    let read : channel_view channel ≡ get_or g.channels c (channel_view channel) =
    ap channel_view is ∙ sym (get_or-map channel_view channels c channel (channel_view channel) lt)
    ∙ ap (λ (cs : List Channel). get_or cs c (channel_view channel)) seen in (
      channel_view channel,
      d,
      slice_get_read g.channels (length g.channels) c (channel_view channel) refl within read,
      asks,
      told ∙ ap (λ n. unbalanced_text n from to d) name_is
          ∙ ap (λ n. unbalanced_text (name_at (names_of g.channels) c) n to d) from_is
          ∙ ap (λ n. unbalanced_text (name_at (names_of g.channels) c) (name_at (actor_names g.actors) channel.from) n d) to_is,
    )
