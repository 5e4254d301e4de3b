-- Telegrams asked and written. Assumes nothing.
use Rattle.std.proofs.Common.{◌≡◌, ℕ, ◌+◌, ◌≤◌, List, ◌++◌, length, drop, None, Some, Option, sym, ap, ◌∙◌, arith, length-append}
use Rattle.std.specs.Option.{IsSomeAnd, MatchOption}
use Rattle.burst.specs.Showing.{ShowsFirst}
use Rattle.burst.specs.Telegram.{telegram_of}
use Rattle.burst.proofs.Lowest.{first_is, none_is}
use Rattle.telegram.specs.Layout.{First, Frame, NoneStands, frame_of, frame_at, frame_bytes}
use Rattle.telegram.specs.View.{Views, burst_of, frame}
use Rattle.telegram.specs.Writing.{Written}
use Rattle.telegram.specs.declared.Fields.{Fields}
use Rattle.telegram.specs.declared.Telegram.{Telegram}
use Rattle.telegram.proofs.Frames.{length-covered}

-- the telegram that a view over the first one says
pub said : (burst : List ℕ) (p : ℕ) (view : Telegram) (f : Frame) → Views burst p view → First burst p → f ≡ frame_of (burst_of view) view.start view.len → telegram_of burst ≡ Some f
said burst p view f seen first told =
    let same : f ≡ frame_at burst p = rw (seen.0, seen.1, seen.2) at told in
    first_is burst p first ∙ ap Some (sym same)

-- what a burst asks: the fields of the telegram that was found in it
pub asked_is : (burst : List ℕ) (found : Option Telegram) (asked : Option Fields) → MatchOption found (NoneStands burst) (ShowsFirst burst) → MatchOption found (asked ≡ None) (λ t. IsSomeAnd asked (λ f. frame f ≡ frame_of (burst_of t) t.start t.len))
    → MatchOption asked (telegram_of burst ≡ None) (λ f. telegram_of burst ≡ Some (frame f))
asked_is burst None asked none told = rw told (none_is burst none)
asked_is burst (Some t) None shown told = absurd told
asked_is burst (Some t) (Some f) shown told = said burst shown.0 t (frame f) shown.1 shown.2 told

pub length-frame : (f : Frame) → length (frame_bytes f) ≡ 14 + length f.payload
unfolding frame_bytes
length-frame f = simp length-append (omega (arith, length-covered f))

-- a reply that was written, by another name of its frame
pub written_as : (f g : Frame) (before after : List ℕ) (n : ℕ) → f ≡ g → Written f before after n → (n ≤ 224) × (n ≡ length (frame_bytes g)) × (after ≡ frame_bytes g ++ drop n before)
written_as f g before after n same w =
    let count : n ≡ length (frame_bytes f) = w.count ∙ sym (length-frame f) in
    (omega (arith, w.count, w.fits), count ∙ ap (λ (h : Frame). length (frame_bytes h)) same, w.bytes ∙ ap (λ (h : Frame). frame_bytes h ++ drop n before) same)
