-- Each text is of one frame.
use Rattle.std.proofs.Common.{◌≡◌, ◌≤◌, ◌<◌, ℕ, ◌^◌, Bool, true, false, nat_lt, cond, List, [], ◌∷◌, ◌++◌, length}
use Rattle.std.proofs.Common.{Option, Some, None, refl, sym, ap, subst, ◌∙◌, append_assoc, arith}
use Rattle.std.specs.List.{AllByRecursion}
use Rattle.std.specs.Int.{w32, w64}
use Rattle.std.proofs.lemmas.Bool.Decides.{nat_tests}
use Rattle.std.proofs.lemmas.List.{append-nil}
use Rattle.group_types.specs.Dimensions.{Dimensions, processes_of}
use Rattle.group_message.specs.declared.message.Message as messages
use Rattle.group_message.specs.declared.message.Message.TheVariants as tells
use Rattle.group_wire.specs.State as wire
use Rattle.wire_codec.specs.Fits.{IsFour, IsEight, FitFields, HasFrame, most}
use Rattle.wire_codec.specs.Frame.{one, four, eight, kind_of, frame_body}
use Rattle.wire_codec.specs.Reading.{◌>>=◌, Read, made_at, decode_number, tested_at, tagged_at, message_in}
use Rattle.wire_codec.proofs.Codes.{IsBytes, Took, Codes, TakesAs, bind_some, some_is, codes_four, codes_eight, codes_tested, takes_made, tagged_takes}
use Rattle.wire_codec.proofs.Messages.{text_takes, text_again}
use Rattle.link_frames.specs.declared.frame.Frame.{Frame}
use Rattle.link_frames.specs.declared.frame.Frame.TheVariants.{Message, Said, Ping, Pong, Request, Told}
use Rattle.link_frames.specs.declared.frame.Frame.TheVariants as carries
use Rattle.link_frames.specs.declared.hello.Hello.{Hello}
use Rattle.link_frames.specs.Limits.{FitsLink, HasLink, IsNotice, NamesWithin}
use Rattle.link_frames.specs.Spelling.{hello, link_before, link_text, link_value}
use Rattle.link_frames.specs.Texts.{said_names, said_at, link_kinds, frame_at, to_end, one_frame, is_message, frame_in, hello_at, ask_at, trace_at, telling_at}
use Rattle.link_frames.proofs.Fields.{again_as}
use Rattle.link_frames.proofs.Greetings.{codes_hello}
use Rattle.link_frames.proofs.Acts.{asked, request, same_ask, same_trace, takes_ask, ask_again, takes_trace, trace_again}
use Rattle.link_frames.proofs.Tellings.{told, codes_told}

-- the texts of kinds that are not messages
abbrev own_text : Frame → List ℕ
own_text f = link_before f ++ link_value f

abbrev IsOwn : Frame → Type 0
IsOwn (Message m) = ⊥
IsOwn _ = Unit {0}

abbrev Own : Dimensions → Frame → Type 0
Own s f = HasLink s f × IsOwn f

abbrev Spelled : Dimensions → ℕ × Read Frame → Type 0
Spelled s entry = TakesAs own_text (Own s) entry

takes_hello : (s : Dimensions) → Spelled s (11, made_at carries.Hello hello_at)
takes_hello s = takes_made own_text (Own s) (11 ∷ []) (λ h. carries.Hello h) codes_hello
    (λ h. append-nil (11 ∷ hello h)) (λ h fits. (record { fits = fits; known = tt }, tt))

abbrev IsKnown : Dimensions → ℕ → Type 0
IsKnown s names = (names < 2 ^ processes_of s) × IsFour names

codes_names : (s : Dimensions) → Codes four (IsKnown s) (tested_at (λ names. nat_lt names (2 ^ processes_of s)) (decode_number w32))
codes_names s = codes_tested four IsFour (IsKnown s) (decode_number w32) (λ names. nat_lt names (2 ^ processes_of s))
    codes_four (λ n fits passes. (grind (arith, nat_tests), fits)) (λ n fits. fits.1) (λ n fits. let below = fits.0 in
    grind (arith, nat_tests))

takes_said : (s : Dimensions) → Spelled s (12, said_at s)
unfolding said_at
takes_said s = takes_made own_text (Own s) (12 ∷ []) said_names (codes_names s) (λ n. append-nil (12 ∷ four n))
    (λ n fits. (record { fits = fits.1; known = fits.0 }, tt))

takes_ping : (s : Dimensions) → Spelled s (13, made_at Ping (decode_number w64))
takes_ping s = takes_made own_text (Own s) (13 ∷ []) (λ n. Ping n) codes_eight (λ n. append-nil (13 ∷ eight n))
    (λ n fits. (record { fits = fits; known = tt }, tt))

takes_pong : (s : Dimensions) → Spelled s (14, made_at Pong (decode_number w64))
takes_pong s = takes_made own_text (Own s) (14 ∷ []) (λ n. Pong n) codes_eight (λ n. append-nil (14 ∷ eight n))
    (λ n fits. (record { fits = fits; known = tt }, tt))

-- a request's reader behind its kind, as one of a frame
takes_request : (s : Dimensions) (tag : ℕ) (read : Read wire.Request)
    → TakesAs request (λ r. Own s (Request r)) (tag, read) → Spelled s (tag, made_at Request read)
takes_request s tag read takes bytes f rest is e =
    let b = bind_some (read bytes) (λ x. Some (Request x.0, x.1)) (f, rest) e in
    let t = takes bytes b.0.0 b.0.1 is b.1 in
    subst (λ (p : Frame × List ℕ). Took own_text (Own s) (tag ∷ bytes) p.0 p.1)
    (some_is (Request b.0.0, b.0.1) (f, rest) b.2) (record { parts = t.parts; fits = t.fits; behind = t.behind })

linked : (s : Dimensions) (tag : ℕ) (read : Read wire.Request) → TakesAs request (λ r. FitsLink (Request r)) (tag, read)
    → TakesAs request (λ r. Own s (Request r)) (tag, read)
linked s tag read takes bytes r rest is e =
    let t = takes bytes r rest is e in
    record { parts = t.parts; fits = (record { fits = t.fits; known = tt }, tt); behind = t.behind }

takes_told : (s : Dimensions) → Spelled s (17, made_at Told telling_at)
takes_told s = takes_made own_text (Own s) (17 ∷ []) (λ t. Told t) codes_told (λ t. refl) (λ t fits. (record { fits = fits; known = tt }, tt))

all_link_kinds : (s : Dimensions) → AllByRecursion (Spelled s) (link_kinds s)
all_link_kinds s = (
  takes_hello s,
  (
    takes_said s,
    (
      takes_ping s,
      (
        takes_pong s,
        (
          takes_request s 15 ask_at (linked s 15 ask_at takes_ask),
          (takes_request s 16 trace_at (linked s 16 trace_at takes_trace), (takes_told s, tt)),
        ),
      ),
    ),
  ),
)

frame_takes : (s : Dimensions) (bytes : List ℕ) (f : Frame) (rest : List ℕ) → IsBytes bytes
    → frame_at s bytes ≡ Some (f, rest) → Took own_text (Own s) bytes f rest
unfolding frame_at
frame_takes s bytes f rest is e = tagged_takes own_text (Own s) (link_kinds s) (all_link_kinds s) bytes f rest is e

-- what was spelled is read again

frame_made : {X : Type 0} {spell : X → List ℕ} {Fits : X → Type 0} {read : Read X} (make : X → Frame)
    → Codes spell Fits read → (x : X) (rest : List ℕ) → Fits x → made_at make read (spell x ++ rest)
    ≡ Some (make x, rest)
frame_made make codes x rest fits = rw (codes.again x rest fits) refl

own_again : (s : Dimensions) (f : Frame) (rest : List ℕ) → Own s f → frame_at s (own_text f ++ rest) ≡ Some (f, rest)
unfolding frame_at said_at
own_again s (Message m) rest own = absurd own.1
own_again s (carries.Hello h) rest own = again_as own_text (link_kinds s) 11 (made_at (λ h. carries.Hello h) hello_at)
    (carries.Hello h) (hello h) rest (append-nil (11 ∷ hello h)) refl
    (frame_made (λ h. carries.Hello h) codes_hello h rest own.0.fits)
own_again s (Said names) rest own =
    again_as own_text (link_kinds s) 12
    (made_at said_names (tested_at (λ names. nat_lt names (2 ^ processes_of s)) (decode_number w32))) (Said names)
    (four names.0) rest (append-nil (12 ∷ four names.0)) refl
    (frame_made said_names (codes_names s) names.0 rest (own.0.known, own.0.fits))
own_again s (Ping n) rest own = again_as own_text (link_kinds s) 13 (made_at (λ n. Ping n) (decode_number w64)) (Ping n)
    (eight n) rest (append-nil (13 ∷ eight n)) refl (frame_made (λ n. Ping n) codes_eight n rest own.0.fits)
own_again s (Pong n) rest own = again_as own_text (link_kinds s) 14 (made_at (λ n. Pong n) (decode_number w64)) (Pong n)
    (eight n) rest (append-nil (14 ∷ eight n)) refl (frame_made (λ n. Pong n) codes_eight n rest own.0.fits)
own_again s (Request (wire.AskFor caller call op)) rest own =
    again_as own_text (link_kinds s) 15 (made_at (λ r. Request r) ask_at) (Request (wire.AskFor caller call op))
    (one caller ++ eight call ++ asked op) rest (same_ask caller call op) refl
    (rw (ask_again caller call op rest own.0.fits) refl)
own_again s (Request (wire.TraceOf caller call d)) rest own =
    again_as own_text (link_kinds s) 16 (made_at (λ r. Request r) trace_at) (Request (wire.TraceOf caller call d))
    (one caller ++ eight call ++ one d) rest (same_trace caller call d) refl
    (rw (trace_again caller call d rest own.0.fits) refl)
own_again s (Told t) rest own = again_as own_text (link_kinds s) 17 (made_at (λ t. Told t) telling_at) (Told t) (told t)
    rest refl refl (frame_made (λ t. Told t) codes_told t rest own.0.fits)

-- a message that isn't a notice has a kind below 10
kind_below : (m : messages.Message) → (¬ (IsNotice m)) → nat_lt (kind_of m) 10 ≡ true
kind_below (tells.Update r d u stable) none = refl
kind_below (tells.Ack r d number) none = refl
kind_below (tells.Stable r d number) none = refl
kind_below (tells.Adopt r d base list) none = refl
kind_below (tells.ReadBlock s block rows) none = refl
kind_below (tells.Block s bytes number) none = refl
kind_below (tells.Mark s r block d number) none = refl
kind_below (tells.Row s bytes stamp) none = refl
kind_below (tells.Cease upto) none = refl
kind_below (tells.Notice dead) none = absurd (none tt)

below_none : (m : messages.Message) → nat_lt (kind_of m) 10 ≡ true → ¬ (IsNotice m)
below_none (tells.Notice dead) is notice = cc
below_none (tells.Update r d u stable) is notice = notice
below_none (tells.Ack r d number) is notice = notice
below_none (tells.Stable r d number) is notice = notice
below_none (tells.Adopt r d base list) is notice = notice
below_none (tells.ReadBlock s block rows) is notice = notice
below_none (tells.Block s bytes number) is notice = notice
below_none (tells.Mark s r block d number) is notice = notice
below_none (tells.Row s bytes stamp) is notice = notice
below_none (tells.Cease upto) is notice = notice

own_whole : (s : Dimensions) (f : Frame) → Own s f → is_message (own_text f) ≡ false → frame_in s (own_text f) ≡ Some f
unfolding frame_in
own_whole s f own kind =
    let again : frame_at s (own_text f) ≡ Some (f, []) = ap (frame_at s) (sym (append-nil (own_text f))) ∙ own_again s f [] own in
    rw (kind, again) refl

pub link_again : (s : Dimensions) (f : Frame) → HasLink s f → frame_in s (link_text f) ≡ Some f
unfolding frame_in
link_again s (Message m) has = rw (kind_below m has.fits.1, text_again m has.fits.0.fit) refl
link_again s (carries.Hello h) has = own_whole s (carries.Hello h) (has, tt) refl
link_again s (Said names) has = own_whole s (Said names) (has, tt) refl
link_again s (Ping n) has = own_whole s (Ping n) (has, tt) refl
link_again s (Pong n) has = own_whole s (Pong n) (has, tt) refl
link_again s (Request (wire.AskFor caller call op)) has = own_whole s (Request (wire.AskFor caller call op)) (has, tt) refl
link_again s (Request (wire.TraceOf caller call d)) has = own_whole s (Request (wire.TraceOf caller call d)) (has, tt) refl
link_again s (Told t) has = own_whole s (Told t) (has, tt) refl

own_is_link : (f : Frame) → IsOwn f → own_text f ≡ link_text f
own_is_link (Message m) own = absurd own
own_is_link (carries.Hello h) own = refl
own_is_link (Said names) own = refl
own_is_link (Ping n) own = refl
own_is_link (Pong n) own = refl
own_is_link (Request r) own = refl
own_is_link (Told t) own = refl

ended : (x : Frame × List ℕ) (f : Frame) → to_end x ≡ Some f → (x.0 ≡ f) × (x.1 ≡ [])
ended (g, []) f e = (some_is g f e, refl)
ended (g, b ∷ rest) f e = absurd cc

message_takes : (s : Dimensions) (text : List ℕ) (f : Frame) → IsBytes text → length text ≤ most
    → is_message text ≡ true → (message_in text >>= (λ m. one_frame (Message m))) ≡ Some f → (text ≡ link_text f)
    × HasLink s f
message_takes s text f is short kind e =
    let b = bind_some (message_in text) (λ m. one_frame (Message m)) f e in
    let t = text_takes text b.0 is b.1 in
    let below : nat_lt (kind_of b.0) 10 ≡ true = ap is_message (sym t.0) ∙ kind in
    let has : HasFrame b.0 = record { fit = t.1; short = omega (arith, short, ap length t.0) } in
    subst (λ (g : Frame). (text ≡ link_text g) × HasLink s g) (some_is (Message b.0) f b.2) (t.0, record { fits = (has, below_none b.0 below); known = tt })

own_takes : (s : Dimensions) (text : List ℕ) (f : Frame) → IsBytes text → (frame_at s text >>= to_end) ≡ Some f → (text ≡ link_text f) × HasLink s f
own_takes s text f is e =
    let b = bind_some (frame_at s text) to_end f e in
    let t = frame_takes s text b.0.0 b.0.1 is b.1 in
    let last = ended b.0 f b.2 in
    let whole : text ≡ own_text b.0.0 = t.parts ∙ ap (λ (rest : List ℕ). own_text b.0.0 ++ rest) last.1 ∙ append-nil (own_text b.0.0) in
    subst (λ (g : Frame). (text ≡ link_text g) × HasLink s g) last.0 (whole ∙ own_is_link b.0.0 t.fits.1, t.fits.0)

takes_by : (b : Bool) (s : Dimensions) (text : List ℕ) (f : Frame) → is_message text ≡ b → IsBytes text
    → length text ≤ most → cond b (message_in text >>= (λ m. one_frame (Message m))) (frame_at s text >>= to_end)
    ≡ Some f → (text ≡ link_text f) × HasLink s f
takes_by true s text f kind is short e = message_takes s text f is short kind e
takes_by false s text f kind is short e = own_takes s text f is e

pub link_takes : (s : Dimensions) (text : List ℕ) (f : Frame) → IsBytes text → length text ≤ most
    → frame_in s text ≡ Some f → (text ≡ link_text f) × HasLink s f
unfolding frame_in
link_takes s text f is short e = takes_by (is_message text) s text f refl is short e
