-- Each message is read exactly where it is spelled, and a frame is of one message.
use Rattle.std.proofs.Common.{◌≡◌, ℕ, List, [], ◌∷◌, ◌++◌, length, Option, Some, refl, sym, ap, subst, ◌∙◌, append_assoc, arith}
use Rattle.std.proofs.lemmas.List.{append-nil}
use Rattle.std.specs.List.{AllByRecursion, flat_map}
use Rattle.std.specs.Int.{w32, w64}
use Rattle.group_types.specs.declared.process.ProcessId.{ProcessId}
use Rattle.group_message.specs.declared.message.Message.{Message}
use Rattle.group_message.specs.declared.message.Message.TheVariants as tells
use Rattle.group_message.specs.declared.message.Session.{Session}
use Rattle.group_message.specs.declared.update.Update.{Update}
use Rattle.wire_codec.specs.Frame.{one, two, four, eight, session, long, update, fields, frame_body, frame_of}
use Rattle.wire_codec.specs.Fits.{IsFour, FitFields, HasFrame}
use Rattle.wire_codec.specs.Reading.{Read, one_at, decode_number, of_three, of_four, picked, session_at, update_message_at}
use Rattle.wire_codec.specs.Reading.{ack_at, stable_at, updates_at, adopt_at, long_at, read_block_at, block_at, mark_at}
use Rattle.wire_codec.specs.Reading.{stamp_at, row_at, cease_at, notice_at, kinds, message_at, ended, message_in}
use Rattle.wire_codec.proofs.Codes.{IsBytes, Took, TakesAs, codes_one, codes_four, codes_eight, takes_made, takes_three}
use Rattle.wire_codec.proofs.Codes.{takes_four, takes_five, tagged_takes, again_three, again_four, again_five}
use Rattle.wire_codec.proofs.Codes.{bind_some, some_is}
use Rattle.wire_codec.proofs.Spelled.{codes_process, codes_session, codes_long, codes_update, codes_updates, codes_stamp, codes_rows}

abbrev spelled_by : ℕ × Read Message → Type 0
spelled_by entry = TakesAs frame_body FitFields entry

abbrev update_by : ℕ → ℕ → Update → ℕ → Message
update_by r d u stable = tells.Update (record { 0 = r }) (record { 0 = d }) u stable

takes_update : spelled_by (1, update_message_at)
unfolding update_message_at
takes_update = takes_four frame_body FitFields (1 ∷ []) update_by codes_one codes_one codes_update codes_eight (λ a b c d. refl)
    (λ a b c d p q r s. (p, q, r, s))

again_update : (r d : ℕ) (u : Update) (stable : ℕ) (rest : List ℕ) → FitFields (update_by r d u stable)
    → update_message_at (fields (update_by r d u stable) ++ rest) ≡ Some (update_by r d u stable, rest)
unfolding update_message_at
again_update r d u stable rest fits = again_four update_by codes_one codes_one codes_update codes_eight r d u stable rest fits.0 fits.1 fits.2 fits.3

abbrev ack_by : ℕ → ℕ → ℕ → Message
ack_by r d number = tells.Ack (record { 0 = r }) (record { 0 = d }) number

takes_ack : spelled_by (2, ack_at)
unfolding ack_at
takes_ack = takes_three frame_body FitFields (2 ∷ []) ack_by codes_one codes_one codes_eight (λ a b c. refl) (λ a b c p q r. (p, q, r))

again_ack : (r d number : ℕ) (rest : List ℕ) → FitFields (ack_by r d number) → ack_at (fields (ack_by r d number) ++ rest) ≡ Some (ack_by r d number, rest)
unfolding ack_at
again_ack r d number rest fits = again_three ack_by codes_one codes_one codes_eight r d number rest fits.0 fits.1 fits.2

abbrev stable_by : ℕ → ℕ → ℕ → Message
stable_by r d number = tells.Stable (record { 0 = r }) (record { 0 = d }) number

takes_stable : spelled_by (3, stable_at)
unfolding stable_at
takes_stable = takes_three frame_body FitFields (3 ∷ []) stable_by codes_one codes_one codes_eight (λ a b c. refl) (λ a b c p q r. (p, q, r))

again_stable : (r d number : ℕ) (rest : List ℕ) → FitFields (stable_by r d number)
    → stable_at (fields (stable_by r d number) ++ rest) ≡ Some (stable_by r d number, rest)
unfolding stable_at
again_stable r d number rest fits = again_three stable_by codes_one codes_one codes_eight r d number rest fits.0 fits.1 fits.2

abbrev adopt_by : ℕ → ℕ → ℕ → List Update → Message
adopt_by r d base list = tells.Adopt (record { 0 = r }) (record { 0 = d }) base list

same_adopt : (r d base : ℕ) (list : List Update) → fields (adopt_by r d base list) ≡ one r ++ one d ++ eight base ++ (two (length list) ++ flat_map update list)
same_adopt r d base list = append_assoc (one r ++ one d ++ eight base) (two (length list)) (flat_map update list)

takes_adopt : spelled_by (4, adopt_at)
unfolding adopt_at
takes_adopt = takes_four frame_body FitFields (4 ∷ []) adopt_by codes_one codes_one codes_eight codes_updates
    (λ a b c d. ap (λ (t : List ℕ). 4 ∷ t) (same_adopt a b c d)) (λ a b c d p q r s. (p, q, r, s.0, s.1))

again_adopt : (r d base : ℕ) (list : List Update) (rest : List ℕ) → FitFields (adopt_by r d base list)
    → adopt_at (fields (adopt_by r d base list) ++ rest) ≡ Some (adopt_by r d base list, rest)
unfolding adopt_at
again_adopt r d base list rest fits =
    ap (λ (t : List ℕ). of_four adopt_by one_at one_at (decode_number w64) updates_at (t ++ rest)) (same_adopt r d base list)
    ∙ again_four adopt_by codes_one codes_one codes_eight codes_updates r d base list rest fits.0 fits.1 fits.2 (fits.3, fits.4)

takes_read_block : spelled_by (5, read_block_at)
unfolding read_block_at
takes_read_block = takes_three frame_body FitFields (5 ∷ []) (λ s block rows. tells.ReadBlock s block rows) codes_session
    codes_four codes_rows (λ a b c. refl) (λ a b c p q r. (p, q, r.0, r.1))

again_read_block : (s : Session) (block : ℕ) (rows rest : List ℕ) → FitFields (tells.ReadBlock s block rows)
    → read_block_at (fields (tells.ReadBlock s block rows) ++ rest) ≡ Some (tells.ReadBlock s block rows, rest)
unfolding read_block_at
again_read_block s block rows rest fits = again_three (λ s block rows. tells.ReadBlock s block rows) codes_session
    codes_four codes_rows s block rows rest fits.0 fits.1 (fits.2, fits.3)

takes_block : spelled_by (6, block_at)
unfolding block_at
takes_block = takes_three frame_body FitFields (6 ∷ []) (λ s bytes number. tells.Block s bytes number) codes_session
    codes_long codes_eight (λ a b c. refl) (λ a b c p q r. (p, q, r))

again_block : (s : Session) (bytes : List ℕ) (number : ℕ) (rest : List ℕ) → FitFields (tells.Block s bytes number)
    → block_at (fields (tells.Block s bytes number) ++ rest) ≡ Some (tells.Block s bytes number, rest)
unfolding block_at
again_block s bytes number rest fits = again_three (λ s bytes number. tells.Block s bytes number) codes_session
    codes_long codes_eight s bytes number rest fits.0 fits.1 fits.2

abbrev mark_by : Session → ℕ → ℕ → ℕ → ℕ → Message
mark_by s r block d number = tells.Mark s (record { 0 = r }) block (record { 0 = d }) number

takes_mark : spelled_by (7, mark_at)
unfolding mark_at
takes_mark = takes_five frame_body FitFields (7 ∷ []) mark_by codes_session codes_one codes_four codes_one codes_eight
    (λ a b c d e. refl) (λ a b c d e p q r s t. (p, q, r, s, t))

again_mark : (s : Session) (r block d number : ℕ) (rest : List ℕ) → FitFields (mark_by s r block d number)
    → mark_at (fields (mark_by s r block d number) ++ rest) ≡ Some (mark_by s r block d number, rest)
unfolding mark_at
again_mark s r block d number rest fits = again_five mark_by codes_session codes_one codes_four codes_one codes_eight s
    r block d number rest fits.0 fits.1 fits.2 fits.3 fits.4

abbrev row_by : Session → List ℕ → List ℕ → Message
row_by s bytes stamp = tells.Row s bytes stamp

same_row : (s : Session) (bytes stamp : List ℕ) → fields (row_by s bytes stamp) ≡ session s ++ long bytes ++ (one (length stamp) ++ flat_map eight stamp)
same_row s bytes stamp = append_assoc (session s ++ long bytes) (one (length stamp)) (flat_map eight stamp)

takes_row : spelled_by (8, row_at)
unfolding row_at
takes_row = takes_three frame_body FitFields (8 ∷ []) row_by codes_session codes_long codes_stamp
    (λ a b c. ap (λ (t : List ℕ). 8 ∷ t) (same_row a b c)) (λ a b c p q r. (p, q, r.0, r.1))

again_row : (s : Session) (bytes stamp rest : List ℕ) → FitFields (row_by s bytes stamp)
    → row_at (fields (row_by s bytes stamp) ++ rest) ≡ Some (row_by s bytes stamp, rest)
unfolding row_at
again_row s bytes stamp rest fits =
    ap (λ (t : List ℕ). of_three row_by session_at long_at stamp_at (t ++ rest)) (same_row s bytes stamp)
    ∙ again_three row_by codes_session codes_long codes_stamp s bytes stamp rest fits.0 fits.1 (fits.2, fits.3)

takes_cease : spelled_by (9, cease_at)
unfolding cease_at
takes_cease = takes_made frame_body FitFields (9 ∷ []) (λ upto. tells.Cease upto) codes_eight (λ a. refl) (λ a fits. fits)

again_cease : (upto : ℕ) (rest : List ℕ) → FitFields (tells.Cease upto) → cease_at (fields (tells.Cease upto) ++ rest) ≡ Some (tells.Cease upto, rest)
unfolding cease_at
again_cease upto rest fits = rw (codes_eight.again upto rest fits) refl

takes_notice : spelled_by (10, notice_at)
unfolding notice_at
takes_notice = takes_made frame_body FitFields (10 ∷ []) (λ dead. tells.Notice dead) codes_process (λ a. refl) (λ a fits. fits)

again_notice : (dead : ProcessId) (rest : List ℕ) → FitFields (tells.Notice dead)
    → notice_at (fields (tells.Notice dead) ++ rest) ≡ Some (tells.Notice dead, rest)
unfolding notice_at
again_notice dead rest fits = rw (codes_process.again dead rest fits) refl

all_kinds : AllByRecursion spelled_by kinds
all_kinds = (
  takes_update,
  (
    takes_ack,
    (
      takes_stable,
      (takes_adopt, (takes_read_block, (takes_block, (takes_mark, (takes_row, (takes_cease, (takes_notice, tt))))))),
    ),
  ),
)

message_takes : (bytes : List ℕ) (m : Message) (rest : List ℕ) → IsBytes bytes → message_at bytes ≡ Some (m, rest) → Took frame_body FitFields bytes m rest
unfolding message_at
message_takes bytes m rest is e = tagged_takes frame_body FitFields kinds all_kinds bytes m rest is e

at_kind : (k : ℕ) (text : List ℕ) → message_at (k ∷ text) ≡ picked kinds k text
unfolding message_at
at_kind k text = refl

pub message_again : (m : Message) (rest : List ℕ) → FitFields m → message_at (frame_body m ++ rest) ≡ Some (m, rest)
message_again (tells.Update r d u stable) rest fits = at_kind 1 (fields (tells.Update r d u stable) ++ rest) ∙ again_update r.0 d.0 u stable rest fits
message_again (tells.Ack r d number) rest fits = at_kind 2 (fields (tells.Ack r d number) ++ rest) ∙ again_ack r.0 d.0 number rest fits
message_again (tells.Stable r d number) rest fits = at_kind 3 (fields (tells.Stable r d number) ++ rest) ∙ again_stable r.0 d.0 number rest fits
message_again (tells.Adopt r d base list) rest fits = at_kind 4 (fields (tells.Adopt r d base list) ++ rest) ∙ again_adopt r.0 d.0 base list rest fits
message_again (tells.ReadBlock s block rows) rest fits = at_kind 5 (fields (tells.ReadBlock s block rows) ++ rest) ∙ again_read_block s block rows rest fits
message_again (tells.Block s bytes number) rest fits = at_kind 6 (fields (tells.Block s bytes number) ++ rest) ∙ again_block s bytes number rest fits
message_again (tells.Mark s r block d number) rest fits = at_kind 7 (fields (tells.Mark s r block d number) ++ rest)
    ∙ again_mark s r.0 block d.0 number rest fits
message_again (tells.Row s bytes stamp) rest fits = at_kind 8 (fields (tells.Row s bytes stamp) ++ rest) ∙ again_row s bytes stamp rest fits
message_again (tells.Cease upto) rest fits = at_kind 9 (fields (tells.Cease upto) ++ rest) ∙ again_cease upto rest fits
message_again (tells.Notice dead) rest fits = at_kind 10 (fields (tells.Notice dead) ++ rest) ∙ again_notice dead rest fits

-- a text that is a whole message
ended_some : (x : Message × List ℕ) (m : Message) → ended x ≡ Some m → (x.0 ≡ m) × (x.1 ≡ [])
ended_some (n, []) m e = (some_is n m e, refl)
ended_some (n, b ∷ rest) m e = absurd cc

pub text_takes : (text : List ℕ) (m : Message) → IsBytes text → message_in text ≡ Some m → (text ≡ frame_body m) × FitFields m
unfolding message_in
text_takes text m is e =
    let b = bind_some (message_at text) ended m e in
    let t = message_takes text b.0.0 b.0.1 is b.1 in
    let last = ended_some b.0 m b.2 in
    subst (λ (n : Message). (text ≡ frame_body n) × FitFields n) last.0
    (t.parts ∙ ap (λ (rest : List ℕ). frame_body b.0.0 ++ rest) last.1 ∙ append-nil (frame_body b.0.0), t.fits)

pub text_again : (m : Message) → FitFields m → message_in (frame_body m) ≡ Some m
unfolding message_in
text_again m fits =
    let again : message_at (frame_body m) ≡ Some (m, []) = ap message_at (sym (append-nil (frame_body m))) ∙ message_again m [] fits in
    rw again refl

-- no frame is the front of another
pub text_length : (m : Message) → HasFrame m → IsFour (length (frame_body m))
text_length m has = let short = has.short in omega (arith, short)

both_some : (m n : Message) (x y : List ℕ) (r : Option (Message × List ℕ)) → r ≡ Some (m, x) → r ≡ Some (n, y) → (m ≡ n) × (x ≡ y)
both_some m n x y r p q =
    let e = some_is (m, x) (n, y) (sym p ∙ q) in
    (ap (λ (z : Message × List ℕ). z.0) e, ap (λ (z : Message × List ℕ). z.1) e)

pub frame_once : (m n : Message) (x y : List ℕ) → HasFrame m → HasFrame n → frame_of m ++ x ≡ frame_of n ++ y → (m ≡ n) × (x ≡ y)
frame_once m n x y has other e =
    let one = codes_four.again (length (frame_body m)) (frame_body m ++ x) (text_length m has) in
    let two = codes_four.again (length (frame_body n)) (frame_body n ++ y) (text_length n other) in
    let same : four (length (frame_body m)) ++ (frame_body m ++ x) ≡ four (length (frame_body n)) ++ (frame_body n ++ y) =
    sym (append_assoc (four (length (frame_body m))) (frame_body m) x) ∙ e ∙ append_assoc (four (length (frame_body n)))
    (frame_body n) y in
    let pair = some_is (length (frame_body m), frame_body m ++ x) (length (frame_body n), frame_body n ++ y) (sym one ∙ ap (decode_number w32) same ∙ two) in
    let texts : frame_body m ++ x ≡ frame_body n ++ y = ap (λ (p : ℕ × List ℕ). p.1) pair in
    both_some m n x y (message_at (frame_body m ++ x)) (message_again m x has.fit) (ap message_at texts ∙ message_again n y other.fit)
