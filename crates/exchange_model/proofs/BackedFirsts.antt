-- To which message a reply came that is copied: to the same one, whose copy stands before it.
use Rattle.std.proofs.Common.{◌≡◌, ℕ, Bool, true, false, ◌&&◌, List, [], ◌∷◌, length, Option, Some, None, refl, sym, ap, subst, ◌∙◌, arith, ◌<◌}
use Rattle.std.specs.Prelude.{find}
use Rattle.std.specs.Str.{bytes_eq}
use Rattle.std.proofs.lemmas.Bool.{false≢true}
use Rattle.coap_codec.specs.Spelling.{Content}
use Rattle.uri_map.specs.declared.peer.Peer.{Peer}
use Rattle.uri_map.specs.Peers.{same_peer}
use Rattle.journal_book.specs.Entries.{Deed, Asks, Sends, Hears, Carries}
use Rattle.journal_book.specs.Entries as D
use Rattle.history_laws.specs.Readings.{Noted, Note, First, Says, Recalls, Answered}
use Rattle.history_laws.specs.Transmissions.{FirstSending, firsts}
use Rattle.history_laws.specs.Exchanges.{Begun, ask_behind}
use Rattle.history_laws.specs.Hearing.{is_such}
use Rattle.history_laws.specs.Carrying.{is_replied_by, replied_by}
use Rattle.history_laws.proofs.CallerLemmas.{some-is}
use Rattle.exchange_model.specs.Rotating.{has}
use Rattle.exchange_model.proofs.Shapes.{Kept, Sending, Hearing, Copy, Aimed, if_such, kept_as, copy_as, copy_by, backing_copy, kept-copy, Fits, opening_as, first_as, firsts-as}
use Rattle.exchange_model.proofs.Copies.{add_copy, copied, copy_in, fits-in, kept_in}
use Rattle.exchange_model.proofs.Backed.{asked_at, asked-keeps, AreBacked, ArePlaced, BackedEntry, BackedSending, behind-more, IsHome}

module _ (p : Peer) (m : Content) where
  -- It is a first sending to the peer under the token.
  abbrev pub hits : Option Kept → Bool
  hits (Some (Sending q b w n)) = same_peer q p && bytes_eq n.token m.token
  hits k = false

  found-as : (n s o : ℕ) (k : Option Kept) (old : List FirstSending) → hits k ≡ false → find (is_replied_by p m) (first_as n s o k old) ≡ find (is_replied_by p m) old
  found-as n s o None old e = refl
  found-as n s o (Some (Hearing q b h a)) old e = refl
  found-as n s o (Some (Sending q b w h)) old e = rw (e) refl

  pub replied-miss : (x : Noted) (l : List Noted) → hits (kept_in x) ≡ false → replied_by (x ∷ l) p m ≡ replied_by l p m
  replied-miss x l e =
      ap (find (is_replied_by p m)) (firsts-as (length l) x.written.moment x.written.deed x.note (firsts l))
      ∙ found-as (length l) x.written.moment (opening_as (length l) x.note) (kept_in x) (firsts l) e

  found-hit : (n s o : ℕ) (q : Peer) (b : List ℕ) (w : Option ℕ) (h : Content) (old : List FirstSending) → hits (Some (Sending q b w h)) ≡ true
      → find (is_replied_by p m) (first_as n s o (Some (Sending q b w h)) old) ≡ Some (record { number = n; moment = s; opening = o; peer = q; message = h })
  found-hit n s o q b w h old e = rw (e) refl

  pub replied-hit : (x : Noted) (l : List Noted) (q : Peer) (b : List ℕ) (w : Option ℕ) (h : Content) → kept_in x ≡ Some (Sending q b w h) → hits (kept_in x) ≡ true
      → replied_by (x ∷ l) p m ≡ Some (record { number = length l; moment = x.written.moment; opening = opening_as (length l) x.note; peer = q; message = h })
  replied-hit x l q b w h is e =
      ap (find (is_replied_by p m)) (firsts-as (length l) x.written.moment x.written.deed x.note (firsts l)
      ∙ ap (λ (k : Option Kept). first_as (length l) x.written.moment (opening_as (length l) x.note) k (firsts l)) is)
      ∙ found-hit (length l) x.written.moment (opening_as (length l) x.note) q b w h (firsts l) (ap hits (sym is) ∙ e)

  miss-add : (t n s : ℕ) (oc : Option Copy) (k : Option Kept) (l : List Noted) → Fits t s oc k → hits k ≡ false → replied_by (add_copy n s oc l) p m ≡ replied_by l p m
  miss-add t n s None k l fits e = refl
  miss-add t n s (Some c) k l fits e = replied-miss (copy_as n s c) l (ap hits (kept-copy n s c ∙ fits) ∙ e)

  such-misses : (b : Bool) (q : Peer) (bytes : List ℕ) (h : Content) (a : Answered) → hits (if_such b (Hearing q bytes h a)) ≡ false
  such-misses true q bytes h a = refl
  such-misses false q bytes h a = refl

  module _ (gs : List ℕ) (f home : ℕ → ℕ) (t : ℕ) where
    -- what is copied of a first sending
    pub record IsAimed (l : List Noted) (d : Deed) (note : Note) : Type 0 where
      pub peer : Peer
      pub bytes : List ℕ
      pub timeout : Option ℕ
      pub opening : ℕ
      pub message : Content
      pub kept : kept_as d note ≡ Some (Sending peer bytes timeout message)
      pub first : note ≡ First opening message
      pub copy : backing_copy home d note ≡ Some (Aimed peer bytes timeout (home opening) message)
      pub backed : BackedSending gs l peer opening message
      pub placed : home opening ≡ f (ask_behind l opening)

    aimed : (l : List Noted) (d : Deed) (note : Note) → hits (kept_as d note) ≡ true → BackedEntry gs l d note → IsHome gs f home t l d note → IsAimed l d note
    aimed l (Sends q b w) (First o h) hit k is =
        record { peer = q; bytes = b; timeout = w; opening = o; message = h; kept = refl; first = refl; copy = refl; backed = k; placed = is }
    aimed l (Carries n mark (D.Sent q b w)) (First o h) hit k is =
        record { peer = q; bytes = b; timeout = w; opening = o; message = h; kept = refl; first = refl; copy = refl; backed = k; placed = is }
    aimed l (Hears q b) (Says h to notice) hit k is = absurd (false≢true (sym (such-misses (is_such h.kind) q b h _) ∙ hit))
    aimed l (Carries n mark (D.Heard q b)) (Recalls h a) hit k is = absurd (false≢true (sym (such-misses (is_such h.kind) q b h a) ∙ hit))
    aimed l (Asks c a) note hit k is = absurd (false≢true hit)
    aimed l (Carries n mark (D.Asked c a)) note hit k is = absurd (false≢true hit)
    aimed l d note hit k is = absurd k

    abbrev pub moved : FirstSending → FirstSending
    moved g = record { number = f g.number; moment = g.moment; opening = home g.opening; peer = g.peer; message = g.message }

    pub record RepliedCopy (l : List Noted) (g : FirstSending) : Type 0 where
      pub replied : replied_by (copied home gs t l) p m ≡ Some (moved g)
      pub opened : g.opening < length l
      pub ask : ℕ
      pub back : ask_behind l g.opening ≡ ask
      pub placed : home g.opening ≡ f ask
      pub exchange : Begun
      pub asked : asked_at l ask ≡ Some exchange
      pub listed : has gs ask ≡ true

    replied-here : (x : Noted) (l : List Noted) (g : FirstSending) → AreBacked gs (x ∷ l) → ArePlaced gs f home t (x ∷ l) → hits (kept_in x) ≡ true
        → replied_by (x ∷ l) p m ≡ Some g → has gs g.number ≡ true → RepliedCopy (x ∷ l) g
    replied-here x l g backed placed hit e listed = made
      where
        n : ℕ
        n = length l

        s : ℕ
        s = x.written.moment

        first-is : (q : Peer) (b : List ℕ) (w : Option ℕ) (h : Content) → kept_in x ≡ Some (Sending q b w h)
            → record { number = n; moment = s; opening = opening_as n x.note; peer = q; message = h } ≡ g
        first-is q b w h is = some-is _ _ (sym (replied-hit x l q b w h is hit) ∙ e)

        sent-kept : (k : Option Kept) → hits k ≡ true → (q : Peer) × (b : List ℕ) × (w : Option ℕ) × (h : Content) × (k ≡ Some (Sending q b w h))
        sent-kept None e = absurd (false≢true e)
        sent-kept (Some (Hearing q b h a)) e = absurd (false≢true e)
        sent-kept (Some (Sending q b w h)) e = (q, b, w, h, refl)

        mine : has gs n ≡ true
        mine =
            let it = sent-kept (kept_in x) hit in
            ap (λ (g : FirstSending). has gs g.number) (first-is it.0 it.1 it.2 it.3 it.4) ∙ listed

        made : RepliedCopy (x ∷ l) g
        made =
            let it = aimed l x.written.deed x.note hit (backed.1 mine) (placed.1 mine).1 in
            let is = first-is it.peer it.bytes it.timeout it.message it.kept in
            let opening : it.opening ≡ g.opening = ap (opening_as n) (sym it.first) ∙ ap (λ (g : FirstSending). g.opening) is in
            let copy : copy_in home gs t n x ≡ Some (Aimed it.peer it.bytes it.timeout (home it.opening) it.message) =
            ap (λ (b : Bool). copy_by b home t s x.written.deed x.note) mine ∙ it.copy in
            let copy_of_it : FirstSending = record { number = length (copied home gs t l); moment = s; opening = home it.opening; peer = it.peer; message = it.message } in
            let found : replied_by (copied home gs t (x ∷ l)) p m ≡ Some copy_of_it =
            ap (λ (oc : Option Copy). replied_by (add_copy n s oc (copied home gs t l)) p m) copy
            ∙ found-hit (length (copied home gs t l)) s (home it.opening) it.peer it.bytes it.timeout it.message (firsts (copied home gs t l)) (ap hits (sym it.kept) ∙ hit) in
            let placed_at : length (copied home gs t l) ≡ f g.number = sym (placed.1 mine).0 ∙ ap (λ (g : FirstSending). f g.number) is in
            record {
              replied =
                  found
                  ∙ (ap (λ (k : ℕ). Some (record { number = k; moment = s; opening = home it.opening; peer = it.peer; message = it.message })) placed_at
                  ∙ (ap (λ (o : ℕ). Some (record { number = f g.number; moment = s; opening = home o; peer = it.peer; message = it.message })) opening
                  ∙ ap (λ (h : FirstSending). Some (record { number = f g.number; moment = h.moment; opening = home g.opening; peer = h.peer; message = h.message })) is));
              opened = (let lt = it.backed.opened in omega (arith, lt, opening));
              ask = it.backed.ask;
              back = subst (λ (o : ℕ). ask_behind (x ∷ l) o ≡ it.backed.ask) opening (behind-more x l it.opening it.backed.opened ∙ it.backed.back);
              placed = subst (λ (o : ℕ). home o ≡ f it.backed.ask) opening (it.placed ∙ ap f it.backed.back);
              exchange = it.backed.exchange;
              asked = asked-keeps x l it.backed.ask it.backed.exchange it.backed.asked;
              listed = it.backed.listed;
            }

    pub replied-copied : (l : List Noted) (g : FirstSending) → AreBacked gs l → ArePlaced gs f home t l → replied_by l p m ≡ Some g → has gs g.number ≡ true → RepliedCopy l g
    replied-copied [] g backed placed e listed = cc
    replied-copied (x ∷ older) g backed placed e listed =
        by (hits (kept_in x)) refl (λ is. replied-copied older g backed.0 placed.0 is listed)
      where
        by : (b : Bool) → hits (kept_in x) ≡ b → (replied_by older p m ≡ Some g → RepliedCopy older g) → RepliedCopy (x ∷ older) g
        by true hit again = replied-here x older g backed placed hit e listed
        by false miss again =
            let ih = again (sym (replied-miss x older miss) ∙ e) in
            record {
              replied =
                  miss-add t (length older) x.written.moment (copy_in home gs t (length older) x) (kept_in x) (copied home gs t older) (fits-in home gs t (length older) x) miss
                  ∙ ih.replied;
              opened = (let lt = ih.opened in omega (arith, lt));
              ask = ih.ask;
              back = behind-more x older g.opening ih.opened ∙ ih.back;
              placed = ih.placed;
              exchange = ih.exchange;
              asked = asked-keeps x older ih.ask ih.exchange ih.asked;
              listed = ih.listed;
            }
