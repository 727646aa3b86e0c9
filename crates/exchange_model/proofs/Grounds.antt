-- What the answer to the ask of an exchange that has ended rests on.
use Rattle.std.proofs.Common.{◌≡◌, ℕ, ◌⊎◌, inl, inr, List, Some, None, refl, ◌∙◌}
use Rattle.ask_model.specs.declared.cause.Cause.TheVariants as C
use Rattle.journal_book.specs.Entries.{Grounds, Live, Kept, Fault}
use Rattle.history_laws.specs.Responses.{Response}
use Rattle.history_laws.specs.Readings.{Noted, at, ticked}
use Rattle.history_laws.specs.Progress.{Reply, numbers, Whole, NotUnderstood, Reset, TimedOut, Turned, Renewed}
use Rattle.history_laws.specs.Transmissions.{sent_last}
use Rattle.history_laws.specs.Exchanges.{End, end_of}
use Rattle.history_laws.specs.Justified.{Ends, HasGrounds, reads, reads_by}
use Rattle.exchange_model.specs.Calls.{Telling}
use Rattle.resp_cache.specs.Stored.{Stored}
use Rattle.history_laws.specs.Storing.{renewed_list}

-- By what was heard the exchange ended so, or what it asked about was renewed.
abbrev pub GroundsOf : List Noted → ℕ → Grounds → Type 0
GroundsOf l o (Live js) =
    ((n : ℕ) × (w : Response) × (rs : List Reply) × Ends l o n (Whole w rs) × (js ≡ numbers rs))
    ⊎ ((n : ℕ) × (s : Stored) × (r : Reply) × Ends l o n (Renewed s r) × (js ≡ renewed_list s r.number))
GroundsOf l o (Fault C.NotUnderstood n) = Ends l o n NotUnderstood
GroundsOf l o (Fault C.Reset n) = Ends l o n Reset
GroundsOf l o _ = ⊥

-- It ended so, or took too long: its latest first sending is named, or the ask of who waits where nothing
-- was sent. That is named too where there was no place for its next message.
abbrev pub GroundsFor : List Noted → ℕ → ℕ → Grounds → Type 0
GroundsFor l k o (Fault C.Timeout n) = ((sent_last l o ≡ Some n) ⊎ ((sent_last l o ≡ None) × (n ≡ k))) × ((e : ℕ) × Ends l o e TimedOut)
GroundsFor l k o (Fault C.Busy n) = (n ≡ k) × ((e : ℕ) × Ends l o e Turned)
GroundsFor l k o g = GroundsOf l o g

pub grounds-for : (l : List Noted) (k o : ℕ) (g : Grounds) → GroundsOf l o g → GroundsFor l k o g
grounds-for l k o (Live js) h = h
grounds-for l k o (Kept js) h = absurd h
grounds-for l k o (Fault C.Timeout n) h = absurd h
grounds-for l k o (Fault C.Busy n) h = absurd h
grounds-for l k o (Fault cause n) h = h

-- who is told waits for what has ended so
pub record IsTold (l : List Noted) (x : Telling) : Type 0 where
  pub asked : Noted
  pub stands : at l x.reader.ask ≡ Some asked
  pub reads : reads_by x.reader.ask asked.note ≡ Some x.reader.opening
  pub grounds : GroundsFor l x.reader.ask x.reader.opening x.grounds

by-grounds : (l : List Noted) (t k o : ℕ) (g : Grounds) → reads l k ≡ Some o → GroundsFor l k o g → HasGrounds l t k g
by-grounds l t k o (Live js) is (inl (n, w, rs, ends, same)) = inl (o, n, w, rs, is, ends, same)
by-grounds l t k o (Live js) is (inr (n, s, r, ends, same)) = inr (o, n, s, r, is, ends, same)
by-grounds l t k o (Kept js) is h = absurd h
by-grounds l t k o (Fault C.NotUnderstood n) is h = (o, is, h)
by-grounds l t k o (Fault C.Reset n) is h = (o, is, h)
by-grounds l t k o (Fault C.Timeout n) is h = (o, is, h.0, inl h.1)
by-grounds l t k o (Fault C.Busy n) is h = (h.0, inr (o, h.1.0, is, h.1.1))
by-grounds l t k o (Fault cause n) is h = absurd h

pub told-grounds : (l : List Noted) (t : ℕ) (x : Telling) → IsTold l x → HasGrounds l t x.reader.ask x.grounds
told-grounds l t x a = by-grounds l t x.reader.ask x.reader.opening x.grounds (rw (a.stands) a.reads) a.grounds

-- A longer history says of what has ended what the older one says, and its last tick is the same.
pub record GoesOn (l n : List Noted) : Type 0 where
  pub ends : (o : ℕ) (e : End) → end_of l o ≡ Some e → end_of n o ≡ Some e
  pub sent : (o : ℕ) (e : End) → end_of l o ≡ Some e → sent_last n o ≡ sent_last l o
  pub stands : (i : ℕ) (x : Noted) → at l i ≡ Some x → at n i ≡ Some x
  pub tick : ticked n ≡ ticked l

pub same-goes : (l : List Noted) → GoesOn l l
same-goes l = record { ends = λ o e h. h; sent = λ o e h. refl; stands = λ i x h. h; tick = refl }

pub both-go : (l m n : List Noted) → GoesOn l m → GoesOn m n → GoesOn l n
both-go l m n a b = record {
  ends = λ o e h. b.ends o e (a.ends o e h);
  sent = λ o e h. b.sent o e (a.ends o e h) ∙ a.sent o e h;
  stands = λ i x h. b.stands i x (a.stands i x h);
  tick = b.tick ∙ a.tick;
}

moved : (l n : List Noted) (o : ℕ) (g : Grounds) → GoesOn l n → GroundsOf l o g → GroundsOf n o g
moved l n o (Live js) a (inl (k, w, rs, ends, same)) = inl (k, w, rs, a.ends o _ ends, same)
moved l n o (Live js) a (inr (k, s, r, ends, same)) = inr (k, s, r, a.ends o _ ends, same)
moved l n o (Kept js) a h = absurd h
moved l n o (Fault C.NotUnderstood k) a h = a.ends o _ h
moved l n o (Fault C.Reset k) a h = a.ends o _ h
moved l n o (Fault cause k) a h = absurd h

moved-for : (l n : List Noted) (k o : ℕ) (g : Grounds) → GoesOn l n → GroundsFor l k o g → GroundsFor n k o g
moved-for l n k o (Live js) a h = moved l n o (Live js) a h
moved-for l n k o (Kept js) a h = absurd h
moved-for l n k o (Fault C.Timeout i) a h = (by h.0, (h.1.0, a.ends o _ h.1.1))
  where
    by : (sent_last l o ≡ Some i) ⊎ ((sent_last l o ≡ None) × (i ≡ k)) → (sent_last n o ≡ Some i) ⊎ ((sent_last n o ≡ None) × (i ≡ k))
    by (inl e) = inl (a.sent o _ h.1.1 ∙ e)
    by (inr e) = inr (a.sent o _ h.1.1 ∙ e.0, e.1)
moved-for l n k o (Fault C.NotUnderstood i) a h = moved l n o (Fault C.NotUnderstood i) a h
moved-for l n k o (Fault C.Reset i) a h = moved l n o (Fault C.Reset i) a h
moved-for l n k o (Fault C.Busy i) a h = (h.0, (h.1.0, a.ends o _ h.1.1))
moved-for l n k o (Fault cause i) a h = absurd h

pub told-moves : (l n : List Noted) (x : Telling) → GoesOn l n → IsTold l x → IsTold n x
told-moves l n x g h = record {
  asked = h.asked;
  stands = g.stands x.reader.ask _ h.stands;
  reads = h.reads;
  grounds = moved-for l n x.reader.ask x.reader.opening x.grounds g h.grounds;
}
