-- A block that is newly rebuilt is what a complete session decodes to.
use Rattle.std.proofs.Common.{◌≡◌, ◌≢◌, ℕ, Bool, true, false, List, [], ◌∷◌, is_some, Option, Some, None, ◌⊎◌, inl, inr, sym, ap, ◌∙◌, refl}
use Rattle.std.proofs.lemmas.Bool.{cases_eq}
use Rattle.group_types.specs.Dimensions.{Dimensions}
use Rattle.group_types.specs.Lists.{at, put}
use Rattle.group_types.proofs.Lists.{at-put, at-put-other}
use Rattle.group_run.specs.Leaders.{block_gathered, decoded_of, gathered_when, is_complete, open_session, rebuilt_block}
use Rattle.group_run.specs.Leaders.{rebuilt_unless, row_gathered, with_decoded, without_session}
use Rattle.group_run.specs.Process.{Gathering, LeaderState}
use Rattle.erasure_code.proofs.Nodes.{Among}
use Rattle.law_bytes.proofs.Copies.{stays-decoded}

-- a block that a session gave
pub record IsDecoded (s : Dimensions) (g : Gathering) (ls : List ℕ) (d b : ℕ) (bytes : List ℕ) : Type 0 where
  pub block : b ≡ g.block
  pub lost : Among d ls
  pub is : bytes ≡ decoded_of s g d

module _ (s : Dimensions) (g : Gathering) where
  unless-new : (c : Bool) (l : ℕ) (state : LeaderState) (d b : ℕ) (bytes : List ℕ) → rebuilt_block state d b ≡ None
      → rebuilt_block (rebuilt_unless c s g l state) d b ≡ Some bytes
      → (b ≡ g.block) × (d ≡ l) × (bytes ≡ decoded_of s g l)
  unless-new true l state d b bytes before after = absurd (cc (before, after))
  unless-new false l state d b bytes before after = by (cases_eq d l) (cases_eq b g.block) where
    blocks : List (Option (List ℕ))
    blocks = put None (at [] state.rebuilt l) g.block (Some (decoded_of s g l))

    here : d ≡ l → at None (at [] (put [] state.rebuilt l blocks) d) b ≡ at None blocks b
    here same = ap (λ (j : ℕ). at None (at [] (put [] state.rebuilt l blocks) j) b) same
        ∙ ap (λ (bs : List (Option (List ℕ))). at None bs b) (at-put [] [] state.rebuilt l blocks)

    by : (d ≡ l) ⊎ (d ≢ l) → (b ≡ g.block) ⊎ (b ≢ g.block) → (b ≡ g.block) × (d ≡ l) × (bytes ≡ decoded_of s g l)
    by (inr other) _ = absurd (cc (sym after ∙ ap (λ (bs : List (Option (List ℕ))). at None bs b) (at-put-other [] state.rebuilt l d blocks other) ∙ before))
    by (inl same) (inr other) =
        absurd (cc (sym after ∙ here same ∙ at-put-other None (at [] state.rebuilt l) g.block b
        (Some (decoded_of s g l)) other ∙ ap (λ (j : ℕ). at None (at [] state.rebuilt j) b) (sym same) ∙ before))
    by (inl same) (inl there) =
        let is : Some bytes ≡ Some (decoded_of s g l) = sym after ∙ here same ∙ ap (at None blocks) there
        ∙ at-put None None (at [] state.rebuilt l) g.block (Some (decoded_of s g l)) in
        (there, same, cc is)

  decoded-new : (ls : List ℕ) (state : LeaderState) (d b : ℕ) (bytes : List ℕ) → rebuilt_block state d b ≡ None
      → rebuilt_block (with_decoded s g ls state) d b ≡ Some bytes → IsDecoded s g ls d b bytes
  decoded-new [] state d b bytes before after = absurd (cc (before, after))
  decoded-new (l ∷ ls) state d b bytes before after = by (rebuilt_block next d b) refl (λ none. decoded-new ls next d b bytes none after) where
    next : LeaderState
    next = rebuilt_unless (is_some (rebuilt_block state l g.block)) s g l state

    by : (o : Option (List ℕ)) → rebuilt_block next d b ≡ o → (rebuilt_block next d b ≡ None → IsDecoded s g ls d b bytes) → IsDecoded s g (l ∷ ls) d b bytes
    by None is later = let deeper = later is in record { block = deeper.block; lost = inr deeper.lost; is = deeper.is }
    by (Some y) is later =
        let new = unless-new (is_some (rebuilt_block state l g.block)) l state d b y before is in
        let stays : Some bytes ≡ Some y = sym after ∙ stays-decoded s g ls next d b (ap is_some is) ∙ is in
        let same : bytes ≡ y = cc stays in
        record { block = new.0; lost = inl new.1; is = same ∙ new.2 ∙ ap (decoded_of s g) (sym new.1) }

  -- only a complete session gives blocks
  gathered-new : (complete : Bool) (state : LeaderState) (d b : ℕ) (bytes : List ℕ) → rebuilt_block state d b ≡ None
      → rebuilt_block (gathered_when complete s g state) d b ≡ Some bytes → (complete ≡ true) × IsDecoded s g g.lost d b bytes
  gathered-new true state d b bytes before after = (
    refl,
    decoded-new g.lost (record state { sessions = without_session g.number state.sessions }) d b bytes before
        after,
  )
  gathered-new false state d b bytes before after = absurd (cc (before, after))

-- the session with a row, or a block, more
abbrev pub with_row : ℕ → List ℕ → Gathering → Gathering
with_row i bytes g = record g { rows_in = put None g.rows_in i (Some bytes) }

abbrev pub with_block : ℕ → List ℕ → Gathering → Gathering
with_block e bytes g = record g { blocks_in = put None g.blocks_in e (Some bytes) }

-- what a leader newly rebuilds when a row, or a block, comes in is what the open session decodes to
pub record GivesBlock (s : Dimensions) (state : LeaderState) (number d b : ℕ) (bytes : List ℕ) (more : Gathering → Gathering) : Type 0 where
  pub session : Gathering
  pub opens : open_session state number ≡ Some session
  pub complete : is_complete s (more session) ≡ true
  pub decoded : IsDecoded s (more session) (more session).lost d b bytes

pub row-gives : (s : Dimensions) (state : LeaderState) (number i : ℕ) (row : List ℕ) (d b : ℕ) (bytes : List ℕ) → rebuilt_block state d b ≡ None
    → rebuilt_block (row_gathered s i row (open_session state number) state) d b ≡ Some bytes → GivesBlock s state number d b bytes (with_row i row)
row-gives s state number i row d b bytes before after = by (open_session state number) refl after where
  by : (o : Option Gathering) → open_session state number ≡ o → rebuilt_block (row_gathered s i row o state) d b
      ≡ Some bytes → GivesBlock s state number d b bytes (with_row i row)
  by None is now = absurd (cc (before, now))
  by (Some g) is now =
      let gives = gathered-new s (with_row i row g) (is_complete s (with_row i row g)) state d b bytes before now in
      record { session = g; opens = is; complete = gives.0; decoded = gives.1 }

pub block-gives : (s : Dimensions) (state : LeaderState) (number e : ℕ) (block : List ℕ) (d b : ℕ) (bytes : List ℕ) → rebuilt_block state d b ≡ None
    → rebuilt_block (block_gathered s e block (open_session state number) state) d b ≡ Some bytes → GivesBlock s state number d b bytes (with_block e block)
block-gives s state number e block d b bytes before after = by (open_session state number) refl after where
  by : (o : Option Gathering) → open_session state number ≡ o → rebuilt_block (block_gathered s e block o state) d b
      ≡ Some bytes → GivesBlock s state number d b bytes (with_block e block)
  by None is now = absurd (cc (before, now))
  by (Some g) is now =
      let gives = gathered-new s (with_block e block g) (is_complete s (with_block e block g)) state d b bytes before now in
      record { session = g; opens = is; complete = gives.0; decoded = gives.1 }
