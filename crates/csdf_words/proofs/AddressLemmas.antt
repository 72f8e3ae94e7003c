-- Where the names that a parser lists lie makes no difference to what a command line says of words: each of its functions gives the same where all names are
-- moved to one address.
use Rattle.std.proofs.Common.{◌≡◌, ◌+◌, ◌==◌, ◌&&◌, ◌||◌, ℕ, zero, suc, Bool, true, false, cond, not, List, [], ◌∷◌, Option, Some, None, Bor}
use Rattle.std.proofs.Common.{drop, is_some, length, map, min, option_map, nat_le, refl, sym, ap, ap₂, ◌∙◌}
use Rattle.std.specs.Prelude.{encode_utf8, find, fold, slice_get}
use Rattle.std.specs.List.{list_all, list_any}
use Rattle.std.specs.Option.{option_map_or}
use Rattle.std.specs.Str.{bytes_eq, chars}
use Rattle.std.proofs.lemmas.List.Folds.{list_all-map}
use Rattle.clap.specs.Lexer.{long_of, short_of}
use Rattle.clap.specs.Facts.{explicit_source, parser_of_value, unwrap_or_range}
use Rattle.clap.specs.Faults.{action_fault, bundle_fault, bundle_step_fault, check_fault, count_fault, default_fault, defaults_fault, entered_fault, flag_word_fault, flags_fault, built_fault, level_fault, long_fault, option_fault, other_fault, positional_fault, react_fault, repeat_fault, set_fault, settle_fault, short_fault, step_fault, stray_fault, turn_fault, use_fault, values_fault, walk_fault}
use Rattle.clap.specs.Kinds.{Kinds, check_kinds, or_else, range_kinds, request_kinds, value_kinds}
use Rattle.clap.specs.Matches.{count_text}
use Rattle.clap.specs.Simple.{App, Shape, entered, label_of, names_of, rows_at}
use Rattle.clap.specs.Takes.{action_passes, built_takes, bundle_passes, bundle_step_passes, count_passes, default_passes, entered_passes, flag_word_passes, flags_pass, is_given, is_valid, level_passes, long_passes, option_passes, other_passes, positional_passes, react_passes, set_passes, settle_passes, short_passes, step_passes, turn_passes, use_passes, values_pass, walk_passes}
use Rattle.clap.specs.Values.{is_request, reading_of, refused_kind, same_text}
use Rattle.clap.specs.ValueTests.{accepts}
use Rattle.clap.specs.Walk.{Held, Names, Outcome, Row, Rule, Step, Text, Waiting, Walk, action_of, after_flag, after_step, answers_to, arg_by_id, arg_by_index, arg_by_long, arg_by_short, attached_value, bundle_met, bundle_step, count_of, default_rows, done, finished, flag_met, has_long, has_row, has_short, idle, is_empty, is_pending, long_met, long_or_other, long_word, most_values, next, nothing_held, option, option_met, option_word, plain, plain_word, positional, positional_held, pushed, reacted, refused, rows_after, settled, settled_rows, short_met, short_or_plain, short_word, stop_after, subcommand, subcommand_met, subcommand_or_other, takes_several, takes_values, to_positional, trailing, used, used_as, used_by_id, value, values_or_missing, waits, walk, walk_from, walked, walked_from, with_default, word_met}
use Rattle.clap.proofs.WalkLemmas.{find-map, list_any-map}
use Rattle.clap.specs.declared.builder.action.ArgAction.{ArgAction}
use Rattle.clap.specs.declared.builder.action.ArgAction.TheVariants as action
use Rattle.clap.specs.declared.builder.value_parser.ValueParser.{ValueParser}
use Rattle.clap.specs.declared.builder.value_parser.ValueParser.TheVariants as vp
use Rattle.clap.specs.declared.error.kind.ErrorKind.TheVariants as kind

-- ---- names moved to one address

abbrev pub moved_text : Bor Text → Bor Text
moved_text s = record { ref_ptr = (0, 0); now = s.now }

abbrev pub moved_parser : ValueParser → ValueParser
moved_parser vp.String = vp.String
moved_parser vp.NonEmptyString = vp.NonEmptyString
moved_parser vp.Bool = vp.Bool
moved_parser vp.Boolish = vp.Boolish
moved_parser vp.Falsey = vp.Falsey
moved_parser (vp.Signed low high) = vp.Signed low high
moved_parser (vp.Unsigned low high) = vp.Unsigned low high
moved_parser vp.Float = vp.Float
moved_parser vp.Char = vp.Char
moved_parser (vp.Names names) = vp.Names (record { ref_ptr = (0, 0); now = map moved_text names.now })
moved_parser (vp.Values values) = vp.Values values

abbrev pub moved : Rule → Rule
moved a = record a { parser = option_map moved_parser a.parser }

abbrev pub moved_all : List Rule → List Rule
moved_all = map moved

abbrev pub moved_shape : Shape → Shape
moved_shape s = record s { rules = moved_all s.rules }

abbrev pub moved_app : App → App
moved_app a = record { top = moved_shape a.top; subs = map moved_shape a.subs }

-- ---- values

same_reading_by : (p : ValueParser) → reading_of (moved_parser p) ≡ reading_of p
same_reading_by vp.String = refl
same_reading_by vp.NonEmptyString = refl
same_reading_by vp.Bool = refl
same_reading_by vp.Boolish = refl
same_reading_by vp.Falsey = refl
same_reading_by (vp.Signed low high) = refl
same_reading_by (vp.Unsigned low high) = refl
same_reading_by vp.Float = refl
same_reading_by vp.Char = refl
same_reading_by (vp.Names names) = refl
same_reading_by (vp.Values values) = refl

same_reading : (p : Option ValueParser) → reading_of (parser_of_value (option_map moved_parser p)) ≡ reading_of (parser_of_value p)
same_reading None = refl
same_reading (Some p) = same_reading_by p

same_accepts_by : (ignore_case : Bool) (p : ValueParser) (text : Text) → accepts ignore_case (moved_parser p) text ≡ accepts ignore_case p text
same_accepts_by ignore_case vp.String text = refl
same_accepts_by ignore_case vp.NonEmptyString text = refl
same_accepts_by ignore_case vp.Bool text = refl
same_accepts_by ignore_case vp.Boolish text = refl
same_accepts_by ignore_case vp.Falsey text = refl
same_accepts_by ignore_case (vp.Signed low high) text = refl
same_accepts_by ignore_case (vp.Unsigned low high) text = refl
same_accepts_by ignore_case vp.Float text = refl
same_accepts_by ignore_case vp.Char text = refl
same_accepts_by ignore_case (vp.Names names) text = sym (list_any-map (λ (name : Bor Text). same_text ignore_case name.now text) moved_text names.now)
same_accepts_by ignore_case (vp.Values values) text = refl

same_accepts : (ignore_case : Bool) (p : Option ValueParser) (text : Text)
    → accepts ignore_case (parser_of_value (option_map moved_parser p)) text ≡ accepts ignore_case (parser_of_value p) text
same_accepts ignore_case None text = refl
same_accepts ignore_case (Some p) text = same_accepts_by ignore_case p text

same_refusal_by : (p : ValueParser) → refused_kind (moved_parser p) ≡ refused_kind p
same_refusal_by vp.String = refl
same_refusal_by vp.NonEmptyString = refl
same_refusal_by vp.Bool = refl
same_refusal_by vp.Boolish = refl
same_refusal_by vp.Falsey = refl
same_refusal_by (vp.Signed low high) = refl
same_refusal_by (vp.Unsigned low high) = refl
same_refusal_by vp.Float = refl
same_refusal_by vp.Char = refl
same_refusal_by (vp.Names names) = refl
same_refusal_by (vp.Values values) = refl

same_refusal : (p : Option ValueParser) → refused_kind (parser_of_value (option_map moved_parser p)) ≡ refused_kind (parser_of_value p)
same_refusal None = refl
same_refusal (Some p) = same_refusal_by p

same_values : (a : Rule) (values : List Text) → values_pass (moved a) values ≡ values_pass a values
same_values a [] = refl
same_values a (v ∷ vs) = ap₂ (λ x y. x && y) (same_accepts a.ignore_case a.parser v) (same_values a vs)

same_missing : (a : Rule) (values : List Text) → values_or_missing (moved a) values ≡ values_or_missing a values
same_missing a [] = refl
same_missing a (v ∷ vs) = refl

-- ---- the walk

by_id : (c : List Rule) (id : Text) → arg_by_id (moved_all c) id ≡ option_map moved (arg_by_id c id)
by_id c id = sym (find-map (λ (a : Rule). bytes_eq a.id id) moved c)

by_long : (c : List Rule) (name : Text) → arg_by_long (moved_all c) name ≡ option_map moved (arg_by_long c name)
by_long c name = sym (find-map (λ (a : Rule). not (is_some a.index) && has_long a name) moved c)

by_short : (c : List Rule) (x : ℕ) → arg_by_short (moved_all c) x ≡ option_map moved (arg_by_short c x)
by_short c x = sym (find-map (λ (a : Rule). not (is_some a.index) && has_short a x) moved c)

by_index : (c : List Rule) (i : ℕ) → arg_by_index (moved_all c) i ≡ option_map moved (arg_by_index c i)
by_index c i = sym (find-map (λ (a : Rule). option_map_or (λ k. k == i) a.index false) moved c)

same_used : (a : Rule) (values : List Text) (rows : List Row) → used (moved a) values rows ≡ used a values rows
same_used a values rows = ap₂ (λ how vs. used_as (action_of a) a.id how vs rows) (same_reading a.parser) (same_missing a values)

same_used_of : (o : Option Rule) (values : List Text) (rows : List Row) → used_by_id (option_map moved o) values rows ≡ used_by_id o values rows
same_used_of None values rows = refl
same_used_of (Some a) values rows = same_used a values rows

same_settled_rows : (c : List Rule) (p : Option (Text × List Text)) (rows : List Row) → settled_rows (moved_all c) p rows ≡ settled_rows c p rows
same_settled_rows c None rows = refl
same_settled_rows c (Some p) rows = ap (λ o. used_by_id o p.1 rows) (by_id c p.0) ∙ same_used_of (arg_by_id c p.0) p.1 rows

same_settled : (c : List Rule) (h : Held) → settled (moved_all c) h ≡ settled c h
same_settled c h = ap (λ (rows : List Row). record h { rows = rows; pending = None }) (same_settled_rows c h.pending h.rows)

same_reacted : (c : List Rule) (a : Rule) (values : List Text) (h : Held) → reacted (moved_all c) (moved a) values h ≡ reacted c a values h
same_reacted c a values h =
    ap (λ (rows : List Row). record h { rows = rows; pending = None })
    (same_used a values (settled (moved_all c) h).rows ∙ ap (λ (g : Held). used a values g.rows) (same_settled c h))

same_option : (c : List Rule) (a : Rule) (v : Option Text) (h : Held) → option_met (moved_all c) (moved a) v h ≡ option_met c a v h
same_option c a (Some v) h = ap (λ (g : Held). (g, done)) (same_reacted c a (v ∷ []) h)
same_option c a None h = ap (λ (g : Held). (record g { pending = Some (a.id, []) }, waits a.id)) (same_settled c h)

same_flag : (c : List Rule) (a : Rule) (v : Option Text) (h : Held) → flag_met (moved_all c) (moved a) v h ≡ flag_met c a v h
same_flag c a (Some v) h = refl
same_flag c a None h = ap (λ (g : Held). (g, done)) (same_reacted c a [] h)

same_long : (c : List Rule) (o : Option Rule) (v : Option Text) (h : Held) → long_met (moved_all c) (option_map moved o) v h ≡ long_met c o v h
same_long c None v h = refl
same_long c (Some a) v h = ap₂ (λ x y. cond (takes_values a) x y) (same_option c a v h) (same_flag c a v h)

same_short : (c : List Rule) (o : Option Rule) (rest : Text) (h : Held) (f g : Held → Held × Outcome) → ((k : Held) → f k ≡ g k)
    → short_met (moved_all c) (option_map moved o) rest h f ≡ short_met c o rest h g
same_short c None rest h f g same = refl
same_short c (Some a) rest h f g same =
    ap₂ (λ x y. cond (takes_values a) x y) (same_option c a (attached_value rest) h) (same _ ∙ ap g (same_reacted c a [] h))

same_bundle_step : (c : List Rule) (x : Option ℕ) (flags : Text) (skip : ℕ) (so_far : Outcome) (h : Held) (f g : Text → ℕ → Outcome → Held → Held × Outcome)
    → ((rest : Text) (n : ℕ) (o : Outcome) (k : Held) → f rest n o k ≡ g rest n o k)
    → bundle_step (moved_all c) x flags skip so_far h f ≡ bundle_step c x flags skip so_far h g
same_bundle_step c None flags skip so_far h f g same = refl
same_bundle_step c (Some x) flags zero so_far h f g same =
    ap (λ o. short_met (moved_all c) o (drop (length (encode_utf8 x)) flags) h (f (drop (length (encode_utf8 x)) flags) 0 done)) (by_short c x)
    ∙ same_short c (arg_by_short c x) (drop (length (encode_utf8 x)) flags) h _ _ (λ k. same (drop (length (encode_utf8 x)) flags) 0 done k)
same_bundle_step c (Some x) flags (suc skip) so_far h f g same = same (drop (length (encode_utf8 x)) flags) skip so_far h

same_bundle_met : (c : List Rule) (k : ℕ) (flags : Text) (skip : ℕ) (so_far : Outcome) (h : Held)
    → bundle_met (moved_all c) k flags skip so_far h ≡ bundle_met c k flags skip so_far h
unfolding bundle_met
same_bundle_met c zero flags skip so_far h = refl
same_bundle_met c (suc k) flags skip so_far h =
    same_bundle_step c (slice_get (chars flags) 0) flags skip so_far h (bundle_met (moved_all c) k) (bundle_met c k) (same_bundle_met c k)

same_option_word : (o : Option Rule) (id word : Text) (h : Held) → option_word (option_map moved o) id word h ≡ option_word o id word h
same_option_word None id word h = refl
same_option_word (Some a) id word h = refl

same_plain : (c : List Rule) (waiting : Waiting) (word : Text) (h : Held) → plain_word (moved_all c) waiting word h ≡ plain_word c waiting word h
same_plain c idle word h = refl
same_plain c (option id) word h =
    ap (λ (q : Held × Waiting). (q.0, next q.1)) (ap (λ o. option_word o id word h) (by_id c id) ∙ same_option_word (arg_by_id c id) id word h)
same_plain c positional word h = refl

same_after_flag : (c : List Rule) (waiting : Waiting) (word : Text) (h : Held) (o : Outcome)
    → after_flag (moved_all c) waiting word h o ≡ after_flag c waiting word h o
same_after_flag c waiting word h done = refl
same_after_flag c waiting word h (waits id) = refl
same_after_flag c waiting word h plain = same_plain c waiting word h
same_after_flag c waiting word h refused = same_plain c waiting word h

same_long_word : (c : List Rule) (waiting : Waiting) (word name : Text) (v : Option Text) (h : Held)
    → long_word (moved_all c) waiting word name v h ≡ long_word c waiting word name v h
same_long_word c waiting word name v h =
    let met = ap (λ o. long_met (moved_all c) o v h) (by_long c name) ∙ same_long c (arg_by_long c name) v h in
    let q = long_met c (arg_by_long c name) v h in
    ap (λ (q : Held × Outcome). after_flag (moved_all c) waiting word q.0 q.1) met ∙ same_after_flag c waiting word q.0 q.1

same_short_word : (c : List Rule) (waiting : Waiting) (word flags : Text) (h : Held)
    → short_word (moved_all c) waiting word flags h ≡ short_word c waiting word flags h
same_short_word c waiting word flags h =
    let met = same_bundle_met c (length flags) flags h.skip plain (record h { skip = 0 }) in
    let q = bundle_met c (length flags) flags h.skip plain (record h { skip = 0 }) in
    ap (λ (q : Held × Outcome). after_flag (moved_all c) waiting word q.0 q.1) met ∙ same_after_flag c waiting word q.0 q.1

same_short_or_plain : (c : List Rule) (waiting : Waiting) (word : Text) (flags : Option Text) (h : Held)
    → short_or_plain (moved_all c) waiting word flags h ≡ short_or_plain c waiting word flags h
same_short_or_plain c waiting word (Some flags) h = same_short_word c waiting word flags h
same_short_or_plain c waiting word None h = same_plain c waiting word h

same_long_or_other : (c : List Rule) (waiting : Waiting) (word : Text) (p : Option (Text × Option Text)) (h : Held)
    → long_or_other (moved_all c) waiting word p h ≡ long_or_other c waiting word p h
same_long_or_other c waiting word (Some p) h = same_long_word c waiting word p.0 p.1 h
same_long_or_other c waiting word None h = same_short_or_plain c waiting word (short_of word) h

same_other : (c : List Rule) (o : Option Text) (waiting : Waiting) (position : ℕ) (word : Text) (h : Held)
    → subcommand_or_other (moved_all c) o waiting position word h ≡ subcommand_or_other c o waiting position word h
same_other c (Some name) waiting position word h = refl
same_other c None waiting position word h =
    ap (λ (q : Held × Step). cond (bytes_eq word (45 ∷ 45 ∷ [])) (h, trailing position) q) (same_long_or_other c waiting word (long_of word) h)

same_word : (c : List Rule) (names : Names) (is_trailing : Bool) (waiting : Waiting) (position : ℕ) (word : Text) (h : Held)
    → word_met (moved_all c) names is_trailing waiting position word h ≡ word_met c names is_trailing waiting position word h
same_word c names is_trailing waiting position word h =
    ap (λ (q : Held × Step). cond is_trailing (h, value) q) (same_other c (subcommand_met names waiting word) waiting position word h)

same_positional : (c : List Rule) (a : Rule) (word : Text) (h : Held) → positional_held (moved_all c) (moved a) word h ≡ positional_held c a word h
same_positional c a word h = ap (λ (g : Held). pushed a.id word (cond (is_pending a h.pending && takes_several a) h g)) (same_settled c h)

same_to_positional : (c : List Rule) (o : Option Rule) (word : Text) (w : Walk) (h : Held)
    → to_positional (moved_all c) (option_map moved o) word w h ≡ to_positional c o word w h
same_to_positional c None word w h = refl
same_to_positional c (Some a) word w h = ap (λ (g : Held). record (to_positional c (Some a) word w h) { held = g }) (same_positional c a word h)

same_after_step : (c : List Rule) (word : Text) (w : Walk) (h : Held) (s : Step) → after_step (moved_all c) word w h s ≡ after_step c word w h s
same_after_step c word w h (next waiting) = refl
same_after_step c word w h (trailing position) = refl
same_after_step c word w h (subcommand name) = refl
same_after_step c word w h value =
    ap (λ o. to_positional (moved_all c) o word w h) (by_index c w.position) ∙ same_to_positional c (arg_by_index c w.position) word w h

same_walked_from : (c : List Rule) (names : Names) (stopped : Option (Text × List Text)) (w : Walk) (word : Text)
    → walked_from (moved_all c) names stopped w word ≡ walked_from c names stopped w word
same_walked_from c names (Some p) w word = refl
same_walked_from c names None w word =
    let q = word_met c names w.is_trailing w.waiting w.position word w.held in
    ap (λ (q : Held × Step). after_step (moved_all c) word w q.0 q.1) (same_word c names w.is_trailing w.waiting w.position word w.held)
    ∙ same_after_step c word w q.0 q.1

same_walked : (c : List Rule) (names : Names) (w : Walk) (word : Text) → walked (moved_all c) names w word ≡ walked c names w word
unfolding walked
same_walked c names w word = same_walked_from c names w.stopped w word

same_walks : (c : List Rule) (names : Names) (w : Walk) (words : List Text) → fold (walked (moved_all c) names) w words ≡ fold (walked c names) w words
same_walks c names w [] = refl
same_walks c names w (word ∷ words) =
    ap (λ v. fold (walked (moved_all c) names) v words) (same_walked c names w word) ∙ same_walks c names (walked c names w word) words

same_walk : (c : List Rule) (names : Names) (h : Held) (words : List Text) → walk (moved_all c) names h words ≡ walk c names h words
same_walk c names h words = same_walks c names (walk_from h) words

same_default : (rows : List Row) (a : Rule) → with_default rows (moved a) ≡ with_default rows a
same_default rows a = ap (λ how. cond (has_row a.id rows) rows (default_rows a.id how a.defaults rows)) (same_reading a.parser)

same_defaults : (rows : List Row) (c : List Rule) → fold with_default rows (moved_all c) ≡ fold with_default rows c
same_defaults rows [] = refl
same_defaults rows (a ∷ c) = ap (λ r. fold with_default r (moved_all c)) (same_default rows a) ∙ same_defaults (with_default rows a) c

same_finished : (c : List Rule) (h : Held) → finished (moved_all c) h ≡ finished c h
same_finished c h = ap (λ (g : Held). fold with_default g.rows (moved_all c)) (same_settled c h) ∙ same_defaults (settled c h).rows c

same_rows : (c : List Rule) (names : Names) (words : List Text) → rows_after (moved_all c) names words ≡ rows_after c names words
same_rows c names words =
    ap (λ (w : Walk). finished (moved_all c) w.held) (same_walk c names nothing_held words) ∙ same_finished c (walk c names nothing_held words).held

-- ---- whether words pass

same_count_passes : (a : Rule) (values : List Text) (rows : List Row) → count_passes (moved a) values rows ≡ count_passes a values rows
same_count_passes a [] rows = same_accepts a.ignore_case a.parser (count_text (min (count_of a.id rows + 1) 255))
same_count_passes a (v ∷ vs) rows = same_values a (v ∷ vs)

same_set_passes : (again : Bool) (a : Rule) (values : List Text) (rows : List Row) → set_passes again (moved a) values rows ≡ set_passes again a values rows
same_set_passes again a values rows = ap (λ b. (not (has_row a.id rows) || again) && b) (same_values a values)

same_action_passes : (x : ArgAction) (again : Bool) (a : Rule) (values : List Text) (rows : List Row)
    → action_passes x again (moved a) values rows ≡ action_passes x again a values rows
same_action_passes action.Set again a values rows = same_set_passes again a values rows
same_action_passes action.SetTrue again a values rows = same_set_passes again a values rows
same_action_passes action.SetFalse again a values rows = same_set_passes again a values rows
same_action_passes action.Append again a values rows = same_values a values
same_action_passes action.Count again a values rows = same_count_passes a values rows
same_action_passes action.Help again a values rows = refl
same_action_passes action.HelpShort again a values rows = refl
same_action_passes action.HelpLong again a values rows = refl
same_action_passes action.Version again a values rows = refl

same_use_passes : (again : Bool) (a : Rule) (values : List Text) (rows : List Row) → use_passes again (moved a) values rows ≡ use_passes again a values rows
same_use_passes again a values rows =
    ap (λ b. nat_le (unwrap_or_range a.range).start_inclusive (length values) && (nat_le (length values) (most_values a) && b))
    (ap (λ vs. action_passes (action_of a) again (moved a) vs rows) (same_missing a values)
    ∙ same_action_passes (action_of a) again a (values_or_missing a values) rows)

same_use_of_passes : (o : Option Rule) (again : Bool) (values : List Text) (rows : List Row)
    → option_map_or (λ a. use_passes again a values rows) (option_map moved o) true ≡ option_map_or (λ a. use_passes again a values rows) o true
same_use_of_passes None again values rows = refl
same_use_of_passes (Some a) again values rows = same_use_passes again a values rows

same_pending_passes : (c : List Rule) (again : Bool) (p : Option (Text × List Text)) (rows : List Row)
    → option_map_or (λ p. option_map_or (λ a. use_passes again a p.1 rows) (arg_by_id (moved_all c) p.0) true) p true
    ≡ option_map_or (λ p. option_map_or (λ a. use_passes again a p.1 rows) (arg_by_id c p.0) true) p true
same_pending_passes c again None rows = refl
same_pending_passes c again (Some p) rows =
    ap (λ o. option_map_or (λ a. use_passes again a p.1 rows) o true) (by_id c p.0) ∙ same_use_of_passes (arg_by_id c p.0) again p.1 rows

same_settle_passes : (c : List Rule) (again : Bool) (h : Held) → settle_passes (moved_all c) again h ≡ settle_passes c again h
same_settle_passes c again h = same_pending_passes c again h.pending h.rows

same_react_passes : (c : List Rule) (again : Bool) (a : Rule) (values : List Text) (h : Held)
    → react_passes (moved_all c) again (moved a) values h ≡ react_passes c again a values h
same_react_passes c again a values h =
    ap₂ (λ x y. x && y) (same_settle_passes c again h)
    (same_use_passes again a values (settled (moved_all c) h).rows ∙ ap (λ (g : Held). use_passes again a values g.rows) (same_settled c h))

same_option_passes : (c : List Rule) (again : Bool) (a : Rule) (v : Option Text) (h : Held)
    → option_passes (moved_all c) again (moved a) v h ≡ option_passes c again a v h
same_option_passes c again a (Some v) h = same_react_passes c again a (v ∷ []) h
same_option_passes c again a None h = same_settle_passes c again h

same_long_passes : (c : List Rule) (again : Bool) (o : Option Rule) (v : Option Text) (h : Held)
    → long_passes (moved_all c) again (option_map moved o) v h ≡ long_passes c again o v h
same_long_passes c again None v h = refl
same_long_passes c again (Some a) v h =
    ap₂ (λ x y. cond (takes_values a) x (not (is_some v) && y)) (same_option_passes c again a v h) (same_react_passes c again a [] h)

same_short_passes : (c : List Rule) (again : Bool) (o : Option Rule) (rest : Text) (h : Held) (f g : Held → Bool) → ((k : Held) → f k ≡ g k)
    → short_passes (moved_all c) again (option_map moved o) rest h f ≡ short_passes c again o rest h g
same_short_passes c again None rest h f g same = refl
same_short_passes c again (Some a) rest h f g same =
    ap₂ (λ x y. cond (takes_values a) x y) (same_option_passes c again a (attached_value rest) h)
    (ap₂ (λ x y. x && y) (same_react_passes c again a [] h) (same (reacted (moved_all c) (moved a) [] h) ∙ ap g (same_reacted c a [] h)))

same_bundle_step_passes : (c : List Rule) (again : Bool) (x : Option ℕ) (flags : Text) (skip : ℕ) (h : Held) (f g : Text → ℕ → Held → Bool)
    → ((rest : Text) (n : ℕ) (k : Held) → f rest n k ≡ g rest n k)
    → bundle_step_passes (moved_all c) again x flags skip h f ≡ bundle_step_passes c again x flags skip h g
same_bundle_step_passes c again None flags skip h f g same = refl
same_bundle_step_passes c again (Some x) flags zero h f g same =
    let rest = drop (length (encode_utf8 x)) flags in
    ap (λ o. short_passes (moved_all c) again o rest h (f rest 0)) (by_short c x)
    ∙ same_short_passes c again (arg_by_short c x) rest h (f rest 0) (g rest 0) (λ k. same rest 0 k)
same_bundle_step_passes c again (Some x) flags (suc skip) h f g same = same (drop (length (encode_utf8 x)) flags) skip h

same_flags_pass : (c : List Rule) (again : Bool) (k : ℕ) (flags : Text) (skip : ℕ) (h : Held)
    → flags_pass (moved_all c) again k flags skip h ≡ flags_pass c again k flags skip h
unfolding flags_pass
same_flags_pass c again zero flags skip h = refl
same_flags_pass c again (suc k) flags skip h =
    same_bundle_step_passes c again (slice_get (chars flags) 0) flags skip h (flags_pass (moved_all c) again k) (flags_pass c again k)
    (same_flags_pass c again k)

same_short_word_passes : (c : List Rule) (again : Bool) (flags : Option Text) (h : Held)
    → option_map_or (λ flags. bundle_passes (moved_all c) again flags h) flags true ≡ option_map_or (λ flags. bundle_passes c again flags h) flags true
same_short_word_passes c again None h = refl
same_short_word_passes c again (Some flags) h = same_flags_pass c again (length flags) flags h.skip (record h { skip = 0 })

same_flag_word_passes : (c : List Rule) (again : Bool) (p : Option (Text × Option Text)) (word : Text) (h : Held)
    → flag_word_passes (moved_all c) again p word h ≡ flag_word_passes c again p word h
same_flag_word_passes c again (Some p) word h =
    ap (λ o. long_passes (moved_all c) again o p.1 h) (by_long c p.0) ∙ same_long_passes c again (arg_by_long c p.0) p.1 h
same_flag_word_passes c again None word h = same_short_word_passes c again (short_of word) h

same_other_passes : (s : Shape) (o : Option Text) (word : Text) (h : Held) → other_passes (moved_shape s) o word h ≡ other_passes s o word h
same_other_passes s (Some name) word h = refl
same_other_passes s None word h = ap (λ b. bytes_eq word (45 ∷ 45 ∷ []) || b) (same_flag_word_passes s.rules s.args_override_self (long_of word) word h)

same_step_of_passes : (c : List Rule) (again : Bool) (o : Option Rule) (h : Held)
    → option_map_or (λ a. positional_passes (moved_all c) again a h) (option_map moved o) false ≡ option_map_or (λ a. positional_passes c again a h) o false
same_step_of_passes c again None h = refl
same_step_of_passes c again (Some a) h = ap (λ b. (is_pending a h.pending && takes_several a) || b) (same_settle_passes c again h)

same_step_passes : (s : Shape) (position : ℕ) (h : Held) (t : Step) → step_passes (moved_shape s) position h t ≡ step_passes s position h t
same_step_passes s position h value =
    ap (λ o. option_map_or (λ a. positional_passes (moved_all s.rules) s.args_override_self a h) o false) (by_index s.rules position)
    ∙ same_step_of_passes s.rules s.args_override_self (arg_by_index s.rules position) h
same_step_passes s position h (next waiting) = refl
same_step_passes s position h (trailing n) = refl
same_step_passes s position h (subcommand name) = refl

same_turn_passes : (s : Shape) (names : Names) (w : Walk) (word : Text) → turn_passes (moved_shape s) names w word ≡ turn_passes s names w word
same_turn_passes s names w word =
    let q = word_met s.rules names w.is_trailing w.waiting w.position word w.held in
    ap₂ (λ x y. is_some w.stopped || ((w.is_trailing || x) && y)) (same_other_passes s (subcommand_met names w.waiting word) word w.held)
    (ap (λ (q : Held × Step). step_passes (moved_shape s) w.position q.0 q.1) (same_word s.rules names w.is_trailing w.waiting w.position word w.held)
    ∙ same_step_passes s w.position q.0 q.1)

same_walk_passes : (s : Shape) (names : Names) (w : Walk) (words : List Text) → walk_passes (moved_shape s) names w words ≡ walk_passes s names w words
unfolding walk_passes
same_walk_passes s names w [] = refl
same_walk_passes s names w (word ∷ rest) =
    ap₂ (λ x y. x && y) (same_turn_passes s names w word)
    (ap (λ v. walk_passes (moved_shape s) names v rest) (same_walked s.rules names w word) ∙ same_walk_passes s names (walked s.rules names w word) rest)

same_default_passes : (c : List Rule) → list_all default_passes (moved_all c) ≡ list_all default_passes c
same_default_passes [] = refl
same_default_passes (a ∷ c) =
    ap₂ (λ x y. (is_empty a.defaults || (not (is_request (action_of a)) && x)) && y) (same_values a a.defaults) (same_default_passes c)

same_valid : (s : Shape) (rows : List Row) (has_subcommand : Bool) → is_valid (moved_shape s) rows has_subcommand ≡ is_valid s rows has_subcommand
same_valid s rows has_subcommand =
    ap₂ (λ x y. (not s.arg_required_else_help || (has_subcommand || list_any (λ (r : Row). explicit_source r.source) rows))
    && ((not s.subcommand_required || has_subcommand) && (x && ((s.subcommand_negates_reqs && has_subcommand) || y))))
    (list_all-map (λ (a : Rule). a.is_free) moved s.rules) (list_all-map (λ (a : Rule). not a.required || is_given a.id rows) moved s.rules)

same_level_passes : (s : Shape) (names : Names) (h : Held) (words : List Text) (has_subcommand : Bool)
    → level_passes (moved_shape s) names h words has_subcommand ≡ level_passes s names h words has_subcommand
same_level_passes s names h words has_subcommand =
    let end = (walk s.rules names h words).held in
    ap₂ (λ x y. x && y) (same_walk_passes s names (walk_from h) words)
    (ap (λ (w : Walk). settle_passes (moved_all s.rules) s.args_override_self w.held
    && (list_all default_passes (moved_all s.rules) && is_valid (moved_shape s) (finished (moved_all s.rules) w.held) has_subcommand))
    (same_walk s.rules names h words)
    ∙ ap₂ (λ x y. x && y) (same_settle_passes s.rules s.args_override_self end)
    (ap₂ (λ x y. x && y) (same_default_passes s.rules)
    (ap (λ rows. is_valid (moved_shape s) rows has_subcommand) (same_finished s.rules end) ∙ same_valid s (finished s.rules end) has_subcommand)))

-- ---- how words fail

same_value_kinds : (a : Rule) (v : Text)
    → value_kinds a.ignore_case (parser_of_value (option_map moved_parser a.parser)) v ≡ value_kinds a.ignore_case (parser_of_value a.parser) v
same_value_kinds a v = ap₂ (λ b k. cond b [] (k ∷ [])) (same_accepts a.ignore_case a.parser v) (same_refusal a.parser)

same_values_fault : (a : Rule) (values : List Text) → values_fault (moved a) values ≡ values_fault a values
same_values_fault a [] = refl
same_values_fault a (v ∷ vs) = ap₂ or_else (same_value_kinds a v) (same_values_fault a vs)

same_count_fault : (a : Rule) (values : List Text) (rows : List Row) → count_fault (moved a) values rows ≡ count_fault a values rows
same_count_fault a [] rows = same_value_kinds a (count_text (min (count_of a.id rows + 1) 255))
same_count_fault a (v ∷ vs) rows = same_values_fault a (v ∷ vs)

same_set_fault : (again : Bool) (a : Rule) (values : List Text) (rows : List Row) → set_fault again (moved a) values rows ≡ set_fault again a values rows
same_set_fault again a values rows = ap (λ k. or_else (repeat_fault again a.id rows) k) (same_values_fault a values)

same_action_fault : (x : ArgAction) (again : Bool) (a : Rule) (values : List Text) (rows : List Row)
    → action_fault x again (moved a) values rows ≡ action_fault x again a values rows
same_action_fault action.Set again a values rows = same_set_fault again a values rows
same_action_fault action.SetTrue again a values rows = same_set_fault again a values rows
same_action_fault action.SetFalse again a values rows = same_set_fault again a values rows
same_action_fault action.Append again a values rows = same_values_fault a values
same_action_fault action.Count again a values rows = same_count_fault a values rows
same_action_fault action.Help again a values rows = refl
same_action_fault action.HelpShort again a values rows = refl
same_action_fault action.HelpLong again a values rows = refl
same_action_fault action.Version again a values rows = refl

same_use_fault : (again : Bool) (a : Rule) (values : List Text) (rows : List Row) → use_fault again (moved a) values rows ≡ use_fault again a values rows
same_use_fault again a values rows =
    ap (λ k. or_else (range_kinds (unwrap_or_range a.range).start_inclusive (most_values a) (length values)) k)
    (ap (λ vs. action_fault (action_of a) again (moved a) vs rows) (same_missing a values)
    ∙ same_action_fault (action_of a) again a (values_or_missing a values) rows)

same_use_of_fault : (o : Option Rule) (again : Bool) (values : List Text) (rows : List Row)
    → option_map_or (λ a. use_fault again a values rows) (option_map moved o) [] ≡ option_map_or (λ a. use_fault again a values rows) o []
same_use_of_fault None again values rows = refl
same_use_of_fault (Some a) again values rows = same_use_fault again a values rows

same_pending_fault : (c : List Rule) (again : Bool) (p : Option (Text × List Text)) (rows : List Row)
    → option_map_or (λ p. option_map_or (λ a. use_fault again a p.1 rows) (arg_by_id (moved_all c) p.0) []) p []
    ≡ option_map_or (λ p. option_map_or (λ a. use_fault again a p.1 rows) (arg_by_id c p.0) []) p []
same_pending_fault c again None rows = refl
same_pending_fault c again (Some p) rows =
    ap (λ o. option_map_or (λ a. use_fault again a p.1 rows) o []) (by_id c p.0) ∙ same_use_of_fault (arg_by_id c p.0) again p.1 rows

same_settle_fault : (c : List Rule) (again : Bool) (h : Held) → settle_fault (moved_all c) again h ≡ settle_fault c again h
same_settle_fault c again h = same_pending_fault c again h.pending h.rows

same_react_fault : (c : List Rule) (again : Bool) (a : Rule) (values : List Text) (h : Held)
    → react_fault (moved_all c) again (moved a) values h ≡ react_fault c again a values h
same_react_fault c again a values h =
    ap₂ or_else (same_settle_fault c again h)
    (same_use_fault again a values (settled (moved_all c) h).rows ∙ ap (λ (g : Held). use_fault again a values g.rows) (same_settled c h))

same_option_fault : (c : List Rule) (again : Bool) (a : Rule) (v : Option Text) (h : Held)
    → option_fault (moved_all c) again (moved a) v h ≡ option_fault c again a v h
same_option_fault c again a (Some v) h = same_react_fault c again a (v ∷ []) h
same_option_fault c again a None h = same_settle_fault c again h

same_long_fault : (c : List Rule) (again : Bool) (o : Option Rule) (v : Option Text) (h : Held)
    → long_fault (moved_all c) again (option_map moved o) v h ≡ long_fault c again o v h
same_long_fault c again None v h = refl
same_long_fault c again (Some a) v h =
    ap₂ (λ x y. cond (takes_values a) x (cond (is_some v) (kind.TooManyValues ∷ []) y)) (same_option_fault c again a v h) (same_react_fault c again a [] h)

same_short_fault : (c : List Rule) (again : Bool) (o : Option Rule) (rest : Text) (h : Held) (f g : Held → Kinds) → ((k : Held) → f k ≡ g k)
    → short_fault (moved_all c) again (option_map moved o) rest h f ≡ short_fault c again o rest h g
same_short_fault c again None rest h f g same = refl
same_short_fault c again (Some a) rest h f g same =
    ap₂ (λ x y. cond (takes_values a) x y) (same_option_fault c again a (attached_value rest) h)
    (ap₂ or_else (same_react_fault c again a [] h) (same (reacted (moved_all c) (moved a) [] h) ∙ ap g (same_reacted c a [] h)))

same_bundle_step_fault : (c : List Rule) (again : Bool) (x : Option ℕ) (flags : Text) (skip : ℕ) (h : Held) (f g : Text → ℕ → Held → Kinds)
    → ((rest : Text) (n : ℕ) (k : Held) → f rest n k ≡ g rest n k)
    → bundle_step_fault (moved_all c) again x flags skip h f ≡ bundle_step_fault c again x flags skip h g
same_bundle_step_fault c again None flags skip h f g same = refl
same_bundle_step_fault c again (Some x) flags zero h f g same =
    let rest = drop (length (encode_utf8 x)) flags in
    ap (λ o. short_fault (moved_all c) again o rest h (f rest 0)) (by_short c x)
    ∙ same_short_fault c again (arg_by_short c x) rest h (f rest 0) (g rest 0) (λ k. same rest 0 k)
same_bundle_step_fault c again (Some x) flags (suc skip) h f g same = same (drop (length (encode_utf8 x)) flags) skip h

same_flags_fault : (c : List Rule) (again : Bool) (k : ℕ) (flags : Text) (skip : ℕ) (h : Held)
    → flags_fault (moved_all c) again k flags skip h ≡ flags_fault c again k flags skip h
unfolding flags_fault
same_flags_fault c again zero flags skip h = refl
same_flags_fault c again (suc k) flags skip h =
    same_bundle_step_fault c again (slice_get (chars flags) 0) flags skip h (flags_fault (moved_all c) again k) (flags_fault c again k)
    (same_flags_fault c again k)

same_short_word_fault : (c : List Rule) (again : Bool) (flags : Option Text) (h : Held)
    → option_map_or (λ flags. bundle_fault (moved_all c) again flags h) flags [] ≡ option_map_or (λ flags. bundle_fault c again flags h) flags []
same_short_word_fault c again None h = refl
same_short_word_fault c again (Some flags) h = same_flags_fault c again (length flags) flags h.skip (record h { skip = 0 })

same_flag_word_fault : (c : List Rule) (again : Bool) (p : Option (Text × Option Text)) (word : Text) (h : Held)
    → flag_word_fault (moved_all c) again p word h ≡ flag_word_fault c again p word h
same_flag_word_fault c again (Some p) word h =
    ap (λ o. long_fault (moved_all c) again o p.1 h) (by_long c p.0) ∙ same_long_fault c again (arg_by_long c p.0) p.1 h
same_flag_word_fault c again None word h = same_short_word_fault c again (short_of word) h

same_other_fault : (s : Shape) (o : Option Text) (word : Text) (h : Held) → other_fault (moved_shape s) o word h ≡ other_fault s o word h
same_other_fault s (Some name) word h = refl
same_other_fault s None word h = ap (λ k. cond (bytes_eq word (45 ∷ 45 ∷ [])) [] k) (same_flag_word_fault s.rules s.args_override_self (long_of word) word h)

same_step_of_fault : (c : List Rule) (again : Bool) (o : Option Rule) (h : Held) (stray : Kinds)
    → option_map_or (λ a. positional_fault (moved_all c) again a h) (option_map moved o) stray ≡ option_map_or (λ a. positional_fault c again a h) o stray
same_step_of_fault c again None h stray = refl
same_step_of_fault c again (Some a) h stray = ap (λ k. cond (is_pending a h.pending && takes_several a) [] k) (same_settle_fault c again h)

same_step_fault : (s : Shape) (position : ℕ) (h : Held) (t : Step) → step_fault (moved_shape s) position h t ≡ step_fault s position h t
same_step_fault s position h value =
    ap (λ o. option_map_or (λ a. positional_fault (moved_all s.rules) s.args_override_self a h) o (stray_fault s)) (by_index s.rules position)
    ∙ same_step_of_fault s.rules s.args_override_self (arg_by_index s.rules position) h (stray_fault s)
same_step_fault s position h (next waiting) = refl
same_step_fault s position h (trailing n) = refl
same_step_fault s position h (subcommand name) = refl

same_turn_fault : (s : Shape) (names : Names) (w : Walk) (word : Text) → turn_fault (moved_shape s) names w word ≡ turn_fault s names w word
same_turn_fault s names w word =
    let q = word_met s.rules names w.is_trailing w.waiting w.position word w.held in
    ap₂ (λ x y. cond (is_some w.stopped) [] (or_else (cond w.is_trailing [] x) y)) (same_other_fault s (subcommand_met names w.waiting word) word w.held)
    (ap (λ (q : Held × Step). step_fault (moved_shape s) w.position q.0 q.1) (same_word s.rules names w.is_trailing w.waiting w.position word w.held)
    ∙ same_step_fault s w.position q.0 q.1)

same_walk_fault : (s : Shape) (names : Names) (w : Walk) (words : List Text) → walk_fault (moved_shape s) names w words ≡ walk_fault s names w words
unfolding walk_fault
same_walk_fault s names w [] = refl
same_walk_fault s names w (word ∷ rest) =
    ap₂ or_else (same_turn_fault s names w word)
    (ap (λ v. walk_fault (moved_shape s) names v rest) (same_walked s.rules names w word) ∙ same_walk_fault s names (walked s.rules names w word) rest)

same_default_fault : (rows : List Row) (a : Rule) → default_fault rows (moved a) ≡ default_fault rows a
same_default_fault rows a =
    ap (λ k. cond (has_row a.id rows || is_empty a.defaults) [] (or_else (request_kinds (action_of a)) k)) (same_values_fault a a.defaults)

same_defaults_fault : (rows : List Row) (c : List Rule) → defaults_fault rows (moved_all c) ≡ defaults_fault rows c
unfolding defaults_fault
same_defaults_fault rows [] = refl
same_defaults_fault rows (a ∷ c) =
    ap₂ or_else (same_default_fault rows a)
    (ap (λ r. defaults_fault r (moved_all c)) (same_default rows a) ∙ same_defaults_fault (with_default rows a) c)

same_check_fault : (s : Shape) (rows : List Row) (has_subcommand : Bool) → check_fault (moved_shape s) rows has_subcommand ≡ check_fault s rows has_subcommand
same_check_fault s rows has_subcommand =
    ap (λ b. check_kinds (not has_subcommand && (s.arg_required_else_help && not (list_any (λ (r : Row). explicit_source r.source) rows)))
    (not has_subcommand && s.subcommand_required) (not (s.subcommand_negates_reqs && has_subcommand) && b))
    (sym (list_any-map (λ (a : Rule). a.required && not (is_given a.id rows)) moved s.rules))

same_level_fault : (s : Shape) (names : Names) (h : Held) (words : List Text) (has_subcommand : Bool) (below : Kinds)
    → level_fault (moved_shape s) names h words has_subcommand below ≡ level_fault s names h words has_subcommand below
same_level_fault s names h words has_subcommand below =
    let end = (walk s.rules names h words).held in
    ap₂ (λ x y. or_else x (or_else below y)) (same_walk_fault s names (walk_from h) words)
    (ap (λ (w : Walk). or_else (settle_fault (moved_all s.rules) s.args_override_self w.held)
    (or_else (defaults_fault (settled (moved_all s.rules) w.held).rows (moved_all s.rules))
    (check_fault (moved_shape s) (finished (moved_all s.rules) w.held) has_subcommand)))
    (same_walk s.rules names h words)
    ∙ ap₂ or_else (same_settle_fault s.rules s.args_override_self end)
    (ap₂ or_else
    (ap (λ (g : Held). defaults_fault g.rows (moved_all s.rules)) (same_settled s.rules end) ∙ same_defaults_fault (settled s.rules end).rows s.rules)
    (ap (λ rows. check_fault (moved_shape s) rows has_subcommand) (same_finished s.rules end) ∙ same_check_fault s (finished s.rules end) has_subcommand)))

-- ---- a command and its subcommands

labels : (subs : List Shape) → map label_of (map moved_shape subs) ≡ map label_of subs
labels [] = refl
labels (s ∷ subs) = ap (λ rest. label_of s ∷ rest) (labels subs)

by_name : (subs : List Shape) (name : Text)
    → find (λ s. answers_to name (label_of s)) (map moved_shape subs) ≡ option_map moved_shape (find (λ s. answers_to name (label_of s)) subs)
by_name subs name = sym (find-map (λ (s : Shape). answers_to name (label_of s)) moved_shape subs)

same_rows_at : (o : Option Shape) (words : List Text)
    → option_map (λ s. rows_at s words) (option_map moved_shape o) ≡ option_map (λ s. rows_at s words) o
same_rows_at None words = refl
same_rows_at (Some s) words = ap (λ rows. Some (s.name, rows)) (same_rows s.rules [] words)

same_entered : (a : App) (stop : Option (Text × List Text)) → entered (moved_app a) stop ≡ entered a stop
same_entered a None = refl
same_entered a (Some p) =
    ap (option_map (λ s. rows_at s p.1)) (by_name a.subs p.0) ∙ same_rows_at (find (λ s. answers_to p.0 (label_of s)) a.subs) p.1

same_level_of_passes : (o : Option Shape) (words : List Text)
    → option_map_or (λ s. level_passes s [] nothing_held words false) (option_map moved_shape o) true
    ≡ option_map_or (λ s. level_passes s [] nothing_held words false) o true
same_level_of_passes None words = refl
same_level_of_passes (Some s) words = same_level_passes s [] nothing_held words false

same_entered_passes : (a : App) (stop : Option (Text × List Text)) → entered_passes (moved_app a) stop ≡ entered_passes a stop
same_entered_passes a None = refl
same_entered_passes a (Some p) =
    ap (λ o. option_map_or (λ s. level_passes s [] nothing_held p.1 false) o true) (by_name a.subs p.0)
    ∙ same_level_of_passes (find (λ s. answers_to p.0 (label_of s)) a.subs) p.1

same_level_of_fault : (o : Option Shape) (words : List Text)
    → option_map_or (λ s. level_fault s [] nothing_held words false []) (option_map moved_shape o) []
    ≡ option_map_or (λ s. level_fault s [] nothing_held words false []) o []
same_level_of_fault None words = refl
same_level_of_fault (Some s) words = same_level_fault s [] nothing_held words false []

same_entered_fault : (a : App) (stop : Option (Text × List Text)) → entered_fault (moved_app a) stop ≡ entered_fault a stop
same_entered_fault a None = refl
same_entered_fault a (Some p) =
    ap (λ o. option_map_or (λ s. level_fault s [] nothing_held p.1 false []) o []) (by_name a.subs p.0)
    ∙ same_level_of_fault (find (λ s. answers_to p.0 (label_of s)) a.subs) p.1

same_stop : (a : App) (h : Held) (words : List Text)
    → (walk (moved_all a.top.rules) (names_of (moved_app a)) h words).stopped ≡ (walk a.top.rules (names_of a) h words).stopped
same_stop a h words =
    ap (λ names. (walk (moved_all a.top.rules) names h words).stopped) (labels a.subs) ∙ ap (λ (w : Walk). w.stopped) (same_walk a.top.rules (names_of a) h words)

-- which subcommand a built command enters, and what it finds there
pub same_subcommand : (a : App) (words : List Text)
    → entered (moved_app a) (stop_after (moved_all a.top.rules) (names_of (moved_app a)) words) ≡ entered a (stop_after a.top.rules (names_of a) words)
same_subcommand a words = ap (entered (moved_app a)) (same_stop a nothing_held words) ∙ same_entered a (stop_after a.top.rules (names_of a) words)

-- whether it takes the words
pub same_takes : (a : App) (h : Held) (words : List Text) → built_takes (moved_app a) h words ≡ built_takes a h words
same_takes a h words =
    let stop = (walk a.top.rules (names_of a) h words).stopped in
    ap₂ (λ s names. entered_passes (moved_app a) s && level_passes (moved_shape a.top) names h words (is_some (entered (moved_app a) s)))
    (same_stop a h words) (labels a.subs)
    ∙ ap₂ (λ x (e : Option (Text × List Row)). x && level_passes (moved_shape a.top) (names_of a) h words (is_some e)) (same_entered_passes a stop) (same_entered a stop)
    ∙ ap (λ y. entered_passes a stop && y) (same_level_passes a.top (names_of a) h words (is_some (entered a stop)))

-- and how it fails
pub same_fault : (a : App) (h : Held) (words : List Text) → built_fault (moved_app a) h words ≡ built_fault a h words
same_fault a h words =
    let stop = (walk a.top.rules (names_of a) h words).stopped in
    ap₂ (λ s names. level_fault (moved_shape a.top) names h words (is_some (entered (moved_app a) s)) (entered_fault (moved_app a) s))
    (same_stop a h words) (labels a.subs)
    ∙ ap₂ (λ (e : Option (Text × List Row)) below. level_fault (moved_shape a.top) (names_of a) h words (is_some e) below)
    (same_entered a stop) (same_entered_fault a stop)
    ∙ same_level_fault a.top (names_of a) h words (is_some (entered a stop)) (entered_fault a stop)
