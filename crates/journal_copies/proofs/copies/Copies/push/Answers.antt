use Rattle.std.proofs.Common.{ℕ, ◌+◌, [], ◌∷◌, ◌++◌, List, ap, sym, ◌∙◌, arith}
use Rattle.std.specs.Prelude.{option_to_list, sum_by}
use Rattle.ask_model.specs.Sizes.{capped}
use Rattle.uri_map.specs.declared.peer.Peer.{Peer}
use Rattle.journal_book.specs.Entries.{Written, entry_size}
use Rattle.journal_book.specs.Views.{item_of}
use Rattle.journal_copies.specs.Copying.{peer_of, peers_in}
use Rattle.journal_copies.proofs.Copied.{counted-bytes, peers-push}
use Rattle.journal_copies.proofs.copies.Copies.push.Goals as goal

pub returns-clause-counted : goal.returns-clause-counted
returns-clause-counted g c =
    let es : List Written = c.args.self.now.journal.entries in
    let w : Written = item_of c.args.copy in
    let same = c.in_ok-make_room.ensures.same in
    let added = c.add.ensures.entries ∙ ap (λ (ws : List Written). ws ++ w ∷ []) same in
    record {
      bytes =
          c.saturating_add-self.ensures
          ∙ (ap (λ (k : ℕ). capped (k + c.size.result)) c.requires.bytes
          ∙ (ap (λ (k : ℕ). capped (capped (sum_by entry_size es) + k)) c.size.ensures
          ∙ (counted-bytes es w ∙ ap (λ (ws : List Written). capped (sum_by entry_size ws)) (sym added))));
      peers =
          c.in_ok-push_peer.ensures
          ∙ (ap (λ (ps : List Peer). ps ++ option_to_list (peer_of w.deed)) c.requires.peers
          ∙ (sym (peers-push es w) ∙ ap peers_in (sym added)));
      place = omega (arith, c.in_ok-make_room.ensures.ok, c.add.ensures.room);
      given = c.add.ensures.given ∙ c.in_ok-make_room.ensures.given ∙ c.requires.given;
      kept = c.add.ensures.kept ∙ c.in_ok-make_room.ensures.kept ∙ c.requires.kept;
    }
