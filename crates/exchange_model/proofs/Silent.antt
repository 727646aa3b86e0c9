-- Entries that are nothing to any exchange or link.
use Rattle.std.proofs.Common.{length, map, ap, subst, ◌∙◌, ◌≡◌, ℕ, ◌≤◌, List, ◌∷◌, None, refl}
use Rattle.std.specs.Prelude.{max}
use Rattle.uri_map.specs.declared.peer.Peer.{Peer}
use Rattle.observe_share.specs.declared.registration.Registration.{Registration}
use Rattle.journal_book.specs.Entries.{Deed, Opens, Answers, Shuts, Seals}
use Rattle.history_laws.specs.Readings.{Noted, Note, Plain, newest, noted}
use Rattle.history_laws.specs.Observing.{asked_last, counting}
use Rattle.history_laws.specs.Observing as H
use Rattle.history_laws.specs.Justified.{Follows}
use Rattle.history_laws.specs.Connections.{sealed_by, opened_by}
use Rattle.history_links.specs.Agrees.{IsFrom}
use Rattle.history_links.specs.Steps.{IsSilent, Before as LinkBefore}
use Rattle.history_links.proofs.CallerLemmas.{silent-agrees, still}
use Rattle.exchange_model.specs.declared.kept.Exchange.{Exchange}
use Rattle.exchange_model.specs.declared.kept.Reader.{Reader}
use Rattle.exchange_model.specs.State.{State, link_of, readers_after}
use Rattle.exchange_model.specs.Reads.{held_of, Reads, readers_by, readers_of}
use Rattle.exchange_model.specs.Steps.{entered}
use Rattle.exchange_model.specs.Laws.{Before, OpensLeads, ShutsLeads, SealsLeads, AnswersLeads}
use Rattle.exchange_model.proofs.Stores.{store-still}
use Rattle.exchange_model.proofs.Uses.{NotServing}
use Rattle.exchange_model.proofs.Tables.{IsNumberedAs, reads-from, reads-later, reads-now, still-reads, unread}

pub later-than : (l : List Noted) (t : ℕ) (S : State) → Before l t S → newest l ≤ t
later-than l t S b = reads-later l t S b.reads b.later

pub link-before : (l : List Noted) (t : ℕ) (S : State) (b : Before l t S) (p : Peer) → LinkBefore b.reads.start l t p (link_of S.links p)
link-before l t S b p = record { legal = b.reads.legal; started = reads-from l t S b.reads b.later; later = later-than l t S b; agrees = b.reads.links_are p }

pub now-from : (l : List Noted) (t : ℕ) (S : State) (b : Before l t S) → IsFrom b.reads.start l t
now-from l t S b = (reads-from l t S b.reads b.later, later-than l t S b)

pub moment-now : (l : List Noted) (t : ℕ) (S : State) (b : Before l t S) → max b.reads.start.moment t ≡ t
moment-now l t S b = reads-now l t S b.reads b.later

-- such an entry by which nobody begins to read
pub silent-reads : (l : List Noted) (t : ℕ) (d : Deed) (note : Note) (S : State) (watches : List Registration) (b : Before l t S)
    → map held_of (H.watches (noted t d note ∷ l)) ≡ watches → ((o : ℕ) → asked_last (noted t d note ∷ l) o ≡ asked_last l o) → counting l note ≡ None
    → IsNumberedAs S d → IsSilent d note → NotServing d note → ((rs : List Reader) → readers_by (length l) d note rs ≡ readers_after rs d)
    → Follows l t d note → Reads (noted t d note ∷ l) (record {
      entries = (entered t d S).entries;
      sealed = sealed_by d S.sealed;
      given = S.given;
      kept = S.kept;
      moment = t;
      opened = opened_by d S.opened;
      issued = S.issued;
      conns = (entered t d S).conns;
      exchanges = S.exchanges;
      pieces = S.pieces;
      stales = S.stales;
      readers = (entered t d S).readers;
      watches = watches;
      store = S.store;
      links = S.links;
    })
silent-reads l t d note S watches b observed read uncounted numbered silent quiet reads follows =
    let later = later-than l t S b in
    subst (λ (es : List Exchange). Reads (noted t d note ∷ l) (record (entered t d S) {
      sealed = sealed_by d S.sealed;
      opened = opened_by d S.opened;
      exchanges = es;
      watches = watches;
    })) (unread S.exchanges)
    (still-reads l t d note S S.links S.store watches (λ (e : Exchange). e.asked) b.reads (store-still (noted t d note) l (b.reads.legal, later, follows) (still l t d note later silent).ends_are uncounted quiet S.store b.reads.store_is) observed (λ e a. read e.opening ∙ a.asked) uncounted b.later numbered follows (readers_after S.readers d) (reads (readers_of l) ∙ ap (λ (rs : List Reader). readers_after rs d) b.reads.readers_are) (still l t d note later silent) (λ p. refl)
    (λ p. silent-agrees _ l t p (link_of S.links p) d note (link-before l t S b p) silent))

pub opens-leads : OpensLeads
opens-leads l t S b may =
    let follows : Follows l t (Opens S.opened) Plain = (may, b.reads.opened_are, tt) in
    record { follows = follows; reads = silent-reads l t (Opens S.opened) Plain S S.watches b b.reads.watches_are (λ o. refl) refl refl tt tt (λ rs. refl) follows }

pub shuts-leads : ShutsLeads
shuts-leads l t c S b quiet is =
    let follows : Follows l t (Shuts c) Plain = (quiet, is, tt) in
    record { follows = follows; reads = silent-reads l t (Shuts c) Plain S S.watches b b.reads.watches_are (λ o. refl) refl tt tt tt (λ rs. refl) follows }

pub seals-leads : SealsLeads
seals-leads l t S b may full =
    let follows : Follows l t Seals Plain = (may, full, tt) in
    record { follows = follows; reads = silent-reads l t Seals Plain S S.watches b b.reads.watches_are (λ o. refl) refl tt tt tt (λ rs. refl) follows }

pub answers-leads : AnswersLeads
answers-leads l t c k g S b quiet is next grounds =
    let follows : Follows l t (Answers c k g) Plain = (quiet, is, next, grounds, tt) in
    record { follows = follows; reads = silent-reads l t (Answers c k g) Plain S S.watches b b.reads.watches_are (λ o. refl) refl tt tt tt (λ rs. refl) follows }
