-- One connection moves bytes, and all are served.
use Rattle.std.proofs.Common.{◌≡◌, ◌≢◌, ◌⊎◌, inl, inr, ℕ, List, [], Option, refl, sym, subst}
use Rattle.media_map.specs.declared.form.Form.{Form}
use Rattle.ask_model.specs.Views.{Rules}
use Rattle.exchange_core.specs.Values.{Outgoing}
use Rattle.gateway_world.specs.Worlds.{WorldValue, memory_of, new_world}
use Rattle.gateway_loop.specs.Clients.{ClientValue, Leaves, Reads, Writes}
use Rattle.gateway_loop.specs.declared.client.Flow.{Flow}
use Rattle.gateway_loop.specs.declared.client.Flow.TheVariants as F
use Rattle.gateway_loop.specs.declared.gateway.Ends.{Ends}
use Rattle.gateway_loop.specs.Places.{ClientsValue, EachChanges, IsEmptied, OnlyAt, no_clients}
use Rattle.gateway_loop.specs.Serving.{IsServed, IsServing, Past}
use Rattle.gateway_loop.specs.Sockets.{Are}
use Rattle.gateway_loop.specs.Telling.{NotesValue, Off, told_in}
use Rattle.gateway_loop.proofs.Changing.{same-or-not}
use Rattle.gateway_loop.proofs.Growing.{hold-none}
use Rattle.gateway_loop.proofs.Served.{served-leaves, served-reads, served-writes, serving-emptied, serving-moves}
use Rattle.gateway_loop.proofs.Tellings.{last-none}

module _ (holds : Form → Form → List ℕ → List ℕ → Type 0) (takes : Form → Form → List ℕ → Type 0)
    {S W : Type 0} (written gave : S → Option (List ℕ)) (sent heard : W → Option (List Outgoing)) where
  -- what holds of the ends of a world holds of equal ones
  pub serving-at : {R : Type 0} (w : WorldValue) (a b : Ends R S W) → b ≡ a
      → IsServing holds takes written gave sent heard w a.clients.places a.wire a.clients.told
      → IsServing holds takes written gave sent heard w b.clients.places b.wire b.clients.told
  serving-at w a b same h =
      subst (λ (x : Ends _ _ _). IsServing holds takes written gave sent heard w x.clients.places x.wire x.clients.told)
      (sym same) h

  serving-only : (w : WorldValue) (n : ℕ) (a b : List (Option (ClientValue S))) (m : W) (n0 n1 : NotesValue)
      (P : ClientValue S → ClientValue S → Type 0)
      → IsServing holds takes written gave sent heard w a m n0 → n1 ≡ n0 → EachChanges (OnlyAt n P) a b
      → ((c : ℕ) (past : Past) (x y : ClientValue S) → P x y → IsServed holds takes written gave c past x
      → IsServed holds takes written gave c past y)
      → IsServing holds takes written gave sent heard w b m n1
  serving-only w n a b m n0 n1 P h same e f =
      serving-moves holds takes written gave sent heard w a b m n0 n1 (OnlyAt n P) h same e
      (λ past c x y o s. by past c x y o s (same-or-not c n))
    where
      by : (past : Past) (c : ℕ) (x y : ClientValue S) → OnlyAt n P c x y → IsServed holds takes written gave c past x
          → (c ≡ n) ⊎ (c ≢ n) → IsServed holds takes written gave c past y
      by past c x y o s (inl q) = f c past x y (o.changes q) s
      by past c x y o s (inr ne) = subst (IsServed holds takes written gave c past) (sym (o.same ne)) s

  pub serving-writes : (w : WorldValue) (n : ℕ) (a b : List (Option (ClientValue S))) (m : W) (n0 n1 : NotesValue)
      → IsServing holds takes written gave sent heard w a m n0 → n1 ≡ n0 → EachChanges (OnlyAt n (Writes written gave)) a b
      → IsServing holds takes written gave sent heard w b m n1
  serving-writes w n a b m n0 n1 h same e =
      serving-only w n a b m n0 n1 (Writes written gave) h same e (λ c past x y. served-writes holds takes written gave c past x y)

  pub serving-reads : (w : WorldValue) (n : ℕ) (a b : List (Option (ClientValue S))) (m : W) (n0 n1 : NotesValue)
      → IsServing holds takes written gave sent heard w a m n0 → n1 ≡ n0 → EachChanges (OnlyAt n (Reads written gave)) a b
      → IsServing holds takes written gave sent heard w b m n1
  serving-reads w n a b m n0 n1 h same e =
      serving-only w n a b m n0 n1 (Reads written gave) h same e (λ c past x y. served-reads holds takes written gave c past x y)

  pub serving-leaves : (w : WorldValue) (n : ℕ) (a b : List (Option (ClientValue S))) (m : W) (n0 n1 : NotesValue)
      → IsServing holds takes written gave sent heard w a m n0 → n1 ≡ n0 → EachChanges (OnlyAt n (Leaves written gave)) a b
      → IsServing holds takes written gave sent heard w b m n1
  serving-leaves w n a b m n0 n1 h same e =
      serving-only w n a b m n0 n1 (Leaves written gave) h same e (λ c past x y. served-leaves holds takes written gave c past x y)

  -- nothing has happened yet
  pub serving-new : (rules : Rules) (w : WorldValue) (v : ClientsValue S) (m : W) → w ≡ new_world rules → v ≡ no_clients
      → Are (sent m) [] → Are (heard m) [] → IsServing holds takes written gave sent heard w v.places m v.told
  serving-new rules w v m e none goes came =
      subst (λ (u : WorldValue). IsServing holds takes written gave sent heard u v.places m v.told) (sym e)
      (subst (λ (u : ClientsValue S). IsServing holds takes written gave sent heard (new_world rules) u.places m u.told) (sym none)
      (record {
        past = record { inputs = []; given = [] };
        after = (memory_of (new_world rules), refl, refl);
        numbers = refl;
        each = λ c x at. absurd cc;
        goes = goes;
        came = hold-none (heard m);
        last = last-none [] Off refl;
      }))

  -- what was read is kept, or lost with its connection
  pub serving-read : (f : Flow) (w : WorldValue) (n : ℕ) (a b : List (Option (ClientValue S))) (m : W) (n0 n1 : NotesValue)
      → IsServing holds takes written gave sent heard w a m n0 → n1 ≡ n0
      → (f ≢ F.Lost → EachChanges (OnlyAt n (Reads written gave)) a b) → (f ≡ F.Lost → IsEmptied n a b)
      → IsServing holds takes written gave sent heard w b m n1
  serving-read F.On w n a b m n0 n1 h same reads lost = serving-reads w n a b m n0 n1 h same (reads (λ e. cc))
  serving-read F.Later w n a b m n0 n1 h same reads lost = serving-reads w n a b m n0 n1 h same (reads (λ e. cc))
  serving-read F.End w n a b m n0 n1 h same reads lost = serving-reads w n a b m n0 n1 h same (reads (λ e. cc))
  serving-read F.Lost w n a b m n0 n1 h same reads lost =
      serving-emptied holds takes written gave sent heard w n a b m n0 n1 h same (lost refl)

  -- what is told is looked at, and forgotten
  pub serving-forgets : (w : WorldValue) (a : List (Option (ClientValue S))) (m : W) (n0 n1 : NotesValue)
      → IsServing holds takes written gave sent heard w a m n0 → told_in n1 ≡ [] → IsServing holds takes written gave sent heard w a m n1
  serving-forgets w a m n0 n1 h none = record {
    past = h.past;
    after = h.after;
    numbers = h.numbers;
    each = h.each;
    goes = h.goes;
    came = h.came;
    last = last-none h.past.given n1 none;
  }
