-- Each act, and each request, is read exactly where it is spelled.
use Rattle.std.proofs.Common.{◌≡◌, ◌≤◌, ◌<◌, ℕ, ◌^◌, ℤ, nat_le, List, [], ◌∷◌, ◌++◌, length, Option, Some, refl, sym, ap, subst, ◌∙◌, append_assoc, arith}
use Rattle.std.specs.List.{AllByRecursion}
use Rattle.std.specs.Int.{w32, w64}
use Rattle.std.proofs.lemmas.Bool.Decides.{nat_tests}
use Rattle.std.proofs.lemmas.List.{append-nil}
use Rattle.group_types.specs.Key.{IsKey}
use Rattle.memc_table.specs.Act.{act_value}
use Rattle.memc_table.specs.Asked.{Asked}
use Rattle.memc_table.specs.declared.act.Act.{Act}
use Rattle.memc_table.specs.declared.act.Act.TheVariants as asks
use Rattle.group_wire.specs.State as wire
use Rattle.wire_codec.specs.Fits.{IsOne, IsFour, IsEight}
use Rattle.wire_codec.specs.Frame.{one, four, eight, short, long}
use Rattle.wire_codec.specs.Reading.{Read, one_at, decode_number, made_at, of_two, of_three, of_four, of_five, tagged_at, key_at}
use Rattle.wire_codec.proofs.Codes.{IsBytes, Took, Codes, TakesAs, codes_one, codes_four, codes_eight, codes_tested}
use Rattle.wire_codec.proofs.Codes.{takes_made, takes_two, takes_three, takes_four, takes_five, tagged_takes, again_two}
use Rattle.wire_codec.proofs.Codes.{again_three, again_four, again_five}
use Rattle.wire_codec.proofs.Spelled.{codes_key}
use Rattle.link_frames.specs.Limits.{FitsAct, FitsAsked, FitsItem, FitsRequest, FitsSigned, FitsValue}
use Rattle.link_frames.specs.Spelling.{act_before, request_before, request_value, signed}
use Rattle.link_frames.specs.Texts.{signed_at, value_at, touch_at, cas_at, item_at, act_table, act_at, moment_at, asked_by, op_at, ask_at, trace_at}
use Rattle.link_frames.proofs.Fields.{again_as, codes_signed, codes_value}

abbrev pub act : Act → List ℕ
act a = act_before a ++ act_value a

abbrev Spelled : ℕ × Read Act → Type 0
Spelled entry = TakesAs act FitsAct entry

-- acts with a key alone
takes_keyed : (tag : ℕ) (make : List ℕ → Act) → ((key : List ℕ) → act (make key) ≡ (tag ∷ short key) ++ [])
    → ((key : List ℕ) → IsKey key → FitsAct (make key)) → Spelled (tag, made_at make key_at)
takes_keyed tag make same fits = takes_made act FitsAct (tag ∷ []) make codes_key (λ key. same key ∙ append-nil (tag ∷ short key)) fits

-- acts with a whole item
pub same_item : (tag : ℕ) (key : List ℕ) (flags : ℕ) (expiry : ℤ) (value : List ℕ)
    → (tag ∷ short key ++ four flags ++ signed expiry ++ four (length value)) ++ value ≡ tag
    ∷ (short key ++ four flags ++ signed expiry ++ long value)
same_item tag key flags expiry value = ap (λ (t : List ℕ). tag ∷ t) (append_assoc (short key ++ four flags ++ signed expiry) (four (length value)) value)

takes_item : (tag : ℕ) (make : List ℕ → ℕ → ℤ → List ℕ → Act)
    → ((key : List ℕ) (flags : ℕ) (expiry : ℤ) (value : List ℕ) → act (make key flags expiry value)
    ≡ (tag ∷ short key ++ four flags ++ signed expiry ++ four (length value)) ++ value)
    → ((key : List ℕ) (flags : ℕ) (expiry : ℤ) (value : List ℕ) → FitsItem key flags expiry value
    → FitsAct (make key flags expiry value)) → Spelled (tag, item_at make)
takes_item tag make same fits =
    takes_four act FitsAct (tag ∷ []) make codes_key codes_four codes_signed codes_value
    (λ a b c d. same a b c d ∙ same_item tag a b c d) (λ a b c d p q r s. fits a b c d (p, q, r, s))

same_cas : (key : List ℕ) (flags : ℕ) (expiry : ℤ) (cas : ℕ) (value : List ℕ)
    → act (asks.Cas key flags expiry cas value) ≡ 4 ∷ (short key ++ four flags ++ signed expiry ++ eight cas
    ++ long value)
same_cas key flags expiry cas value =
    ap (λ (t : List ℕ). 4 ∷ t) (append_assoc (short key ++ four flags ++ signed expiry ++ eight cas)
    (four (length value)) value)

takes_cas : Spelled (4, cas_at)
unfolding cas_at
takes_cas = takes_five act FitsAct (4 ∷ []) (λ a b c d e. asks.Cas a b c d e) codes_key codes_four codes_signed
    codes_eight codes_value same_cas (λ a b c d e p q r s t. (p, q, r, s, t))

takes_touch : Spelled (6, touch_at)
unfolding touch_at
takes_touch = takes_two act FitsAct (6 ∷ []) (λ a b. asks.Touch a b) codes_key codes_signed (λ a b. append-nil (6 ∷ short a ++ signed b)) (λ a b p q. (p, q))

same_joined : (tag : ℕ) (key value : List ℕ) → (tag ∷ short key ++ four (length value)) ++ value ≡ tag ∷ (short key ++ long value)
same_joined tag key value = ap (λ (t : List ℕ). tag ∷ t) (append_assoc (short key) (four (length value)) value)

takes_append : Spelled (7, of_two asks.Append key_at value_at)
takes_append = takes_two act FitsAct (7 ∷ []) (λ a b. asks.Append a b) codes_key codes_value (same_joined 7) (λ a b p q. (p, q))

takes_prepend : Spelled (8, of_two asks.Prepend key_at value_at)
takes_prepend = takes_two act FitsAct (8 ∷ []) (λ a b. asks.Prepend a b) codes_key codes_value (same_joined 8) (λ a b p q. (p, q))

takes_incr : Spelled (9, of_two asks.Incr key_at (decode_number w64))
takes_incr = takes_two act FitsAct (9 ∷ []) (λ a b. asks.Incr a b) codes_key codes_eight (λ a b. append-nil (9 ∷ short a ++ eight b)) (λ a b p q. (p, q))

takes_decr : Spelled (10, of_two asks.Decr key_at (decode_number w64))
takes_decr = takes_two act FitsAct (10 ∷ []) (λ a b. asks.Decr a b) codes_key codes_eight (λ a b. append-nil (10 ∷ short a ++ eight b)) (λ a b p q. (p, q))

all_acts : AllByRecursion Spelled act_table
all_acts = (
  takes_keyed 0 (λ key. asks.Get key) (λ key. refl) (λ key is. is),
  (
    takes_item 1 (λ a b c d. asks.Set a b c d) (λ a b c d. refl) (λ a b c d fits. fits),
    (
      takes_item 2 (λ a b c d. asks.Add a b c d) (λ a b c d. refl) (λ a b c d fits. fits),
      (
        takes_item 3 (λ a b c d. asks.Replace a b c d) (λ a b c d. refl) (λ a b c d fits. fits),
        (
          takes_cas,
          (
            takes_keyed 5 (λ key. asks.Delete key) (λ key. refl) (λ key is. is),
            (takes_touch, (takes_append, (takes_prepend, (takes_incr, (takes_decr, tt))))),
          ),
        ),
      ),
    ),
  ),
)

again_item : (tag : ℕ) (make : List ℕ → ℕ → ℤ → List ℕ → Act) (key : List ℕ) (flags : ℕ) (expiry : ℤ)
    (value rest : List ℕ) → FitsItem key flags expiry value
    → item_at make ((short key ++ four flags ++ signed expiry ++ long value) ++ rest)
    ≡ Some (make key flags expiry value, rest)
again_item tag make key flags expiry value rest fits = again_four make codes_key codes_four codes_signed codes_value key
    flags expiry value rest fits.0 fits.1 fits.2 fits.3

again_keyed : (make : List ℕ → Act) (key rest : List ℕ) → IsKey key → made_at make key_at (short key ++ rest) ≡ Some (make key, rest)
again_keyed make key rest is = rw (codes_key.again key rest is) refl

act_again : (a : Act) (rest : List ℕ) → FitsAct a → act_at (act a ++ rest) ≡ Some (a, rest)
unfolding act_at touch_at cas_at
act_again (asks.Get key) rest fits = again_as act act_table 0 (made_at (λ k. asks.Get k) key_at) (asks.Get key)
    (short key) rest (append-nil (0 ∷ short key)) refl (again_keyed (λ k. asks.Get k) key rest fits)
act_again (asks.Set key flags expiry value) rest fits =
    again_as act act_table 1 (item_at (λ a b c d. asks.Set a b c d)) (asks.Set key flags expiry value)
    (short key ++ four flags ++ signed expiry ++ long value) rest (same_item 1 key flags expiry value) refl
    (again_item 1 (λ a b c d. asks.Set a b c d) key flags expiry value rest fits)
act_again (asks.Add key flags expiry value) rest fits =
    again_as act act_table 2 (item_at (λ a b c d. asks.Add a b c d)) (asks.Add key flags expiry value)
    (short key ++ four flags ++ signed expiry ++ long value) rest (same_item 2 key flags expiry value) refl
    (again_item 2 (λ a b c d. asks.Add a b c d) key flags expiry value rest fits)
act_again (asks.Replace key flags expiry value) rest fits =
    again_as act act_table 3 (item_at (λ a b c d. asks.Replace a b c d)) (asks.Replace key flags expiry value)
    (short key ++ four flags ++ signed expiry ++ long value) rest (same_item 3 key flags expiry value) refl
    (again_item 3 (λ a b c d. asks.Replace a b c d) key flags expiry value rest fits)
act_again (asks.Cas key flags expiry cas value) rest fits =
    again_as act act_table 4 (of_five (λ a b c d e. asks.Cas a b c d e) key_at (decode_number w32) signed_at (decode_number w64)
    value_at) (asks.Cas key flags expiry cas value) (short key ++ four flags ++ signed expiry ++ eight cas
    ++ long value) rest (same_cas key flags expiry cas value) refl
    (again_five (λ a b c d e. asks.Cas a b c d e) codes_key codes_four codes_signed codes_eight codes_value key flags
    expiry cas value rest fits.0 fits.1 fits.2 fits.3 fits.4)
act_again (asks.Delete key) rest fits = again_as act act_table 5 (made_at (λ k. asks.Delete k) key_at) (asks.Delete key)
    (short key) rest (append-nil (5 ∷ short key)) refl (again_keyed (λ k. asks.Delete k) key rest fits)
act_again (asks.Touch key expiry) rest fits =
    again_as act act_table 6 (of_two (λ a b. asks.Touch a b) key_at signed_at) (asks.Touch key expiry)
    (short key ++ signed expiry) rest (append-nil (6 ∷ short key ++ signed expiry)) refl
    (again_two (λ a b. asks.Touch a b) codes_key codes_signed key expiry rest fits.0 fits.1)
act_again (asks.Append key value) rest fits =
    again_as act act_table 7 (of_two (λ a b. asks.Append a b) key_at value_at) (asks.Append key value)
    (short key ++ long value) rest (same_joined 7 key value) refl
    (again_two (λ a b. asks.Append a b) codes_key codes_value key value rest fits.0 fits.1)
act_again (asks.Prepend key value) rest fits =
    again_as act act_table 8 (of_two (λ a b. asks.Prepend a b) key_at value_at) (asks.Prepend key value)
    (short key ++ long value) rest (same_joined 8 key value) refl
    (again_two (λ a b. asks.Prepend a b) codes_key codes_value key value rest fits.0 fits.1)
act_again (asks.Incr key by) rest fits =
    again_as act act_table 9 (of_two (λ a b. asks.Incr a b) key_at (decode_number w64)) (asks.Incr key by)
    (short key ++ eight by) rest (append-nil (9 ∷ short key ++ eight by)) refl
    (again_two (λ a b. asks.Incr a b) codes_key codes_eight key by rest fits.0 fits.1)
act_again (asks.Decr key by) rest fits =
    again_as act act_table 10 (of_two (λ a b. asks.Decr a b) key_at (decode_number w64)) (asks.Decr key by)
    (short key ++ eight by) rest (append-nil (10 ∷ short key ++ eight by)) refl
    (again_two (λ a b. asks.Decr a b) codes_key codes_eight key by rest fits.0 fits.1)

codes_act : Codes act FitsAct act_at
unfolding act_at
codes_act = record { takes = tagged_takes act FitsAct act_table all_acts; again = act_again }

abbrev IsMoment : ℕ → Type 0
IsMoment n = n ≤ 2 ^ 62

codes_moment : Codes eight IsMoment moment_at
unfolding moment_at
codes_moment = codes_tested eight IsEight IsMoment (decode_number w64) (λ n. nat_le n (2 ^ 62)) codes_eight
    (λ n fits passes. grind (arith, nat_tests)) (λ n fits. omega (arith, fits)) (λ n fits. grind (arith, nat_tests))

abbrev pub asked : Asked → List ℕ
asked op = eight op.moment ++ act op.act

codes_asked : Codes asked FitsAsked op_at
unfolding op_at
codes_asked = record {
  takes = takes_two asked FitsAsked [] asked_by codes_moment codes_act (λ a b. refl) (λ a b p q. (p, q));
  again = λ op rest fits. again_two asked_by codes_moment codes_act op.moment op.act rest fits.0 fits.1;
}

-- a request, with its kind
abbrev pub request : wire.Request → List ℕ
request r = request_before r ++ request_value r

pub same_ask : (caller call : ℕ) (op : Asked) → request (wire.AskFor caller call op) ≡ 15 ∷ (one caller ++ eight call ++ asked op)
same_ask caller call op =
    ap (λ (t : List ℕ). 15 ∷ t) (append_assoc (one caller ++ eight call ++ eight op.moment) (act_before op.act)
    (act_value op.act) ∙ append_assoc (one caller ++ eight call) (eight op.moment) (act op.act))

pub same_trace : (caller call d : ℕ) → request (wire.TraceOf caller call d) ≡ 16 ∷ (one caller ++ eight call ++ one d)
same_trace caller call d = append-nil (16 ∷ one caller ++ eight call ++ one d)

pub takes_ask : TakesAs request FitsRequest (15, ask_at)
unfolding ask_at
takes_ask = takes_three request FitsRequest (15 ∷ []) (λ a b c. wire.AskFor a b c) codes_one codes_eight codes_asked same_ask (λ a b c p q r. (p, q, r))

pub ask_again : (caller call : ℕ) (op : Asked) (rest : List ℕ) → FitsRequest (wire.AskFor caller call op)
    → ask_at ((one caller ++ eight call ++ asked op) ++ rest) ≡ Some (wire.AskFor caller call op, rest)
unfolding ask_at
ask_again caller call op rest fits = again_three (λ a b c. wire.AskFor a b c) codes_one codes_eight codes_asked caller call op rest fits.0 fits.1 fits.2

pub takes_trace : TakesAs request FitsRequest (16, trace_at)
unfolding trace_at
takes_trace = takes_three request FitsRequest (16 ∷ []) (λ a b c. wire.TraceOf a b c) codes_one codes_eight codes_one same_trace (λ a b c p q r. (p, q, r))

pub trace_again : (caller call d : ℕ) (rest : List ℕ) → FitsRequest (wire.TraceOf caller call d)
    → trace_at ((one caller ++ eight call ++ one d) ++ rest) ≡ Some (wire.TraceOf caller call d, rest)
unfolding trace_at
trace_again caller call d rest fits = again_three (λ a b c. wire.TraceOf a b c) codes_one codes_eight codes_one caller call d rest fits.0 fits.1 fits.2
