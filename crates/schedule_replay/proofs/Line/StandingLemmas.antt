-- Each step of the code of a line is a step of the line.
use Rattle.std.proofs.Common.{◌≡◌, ◌≤◌, ◌<◌, ℕ, ◌+◌, ◌-◌, List, [], ◌∷◌, ◌++◌, length, map, slice_get, Some, None, refl, ap, sym, ◌∙◌, subst, arith, Bool, true, false, inl, inr}
use Rattle.std.specs.Prelude.{codes}
use Rattle.std.specs.List.{AllZip}
use Rattle.std.specs.declared.option.Option.{Option}
use Rattle.page_core.specs.declared.counts.Counts.{Counts}
use Rattle.page_core.specs.declared.node.Node.{Node}
use Rattle.hub_messages.proofs.DownLemmas.{one_down}
use Rattle.hub_messages.proofs.UpLemmas.{one_up}
use Rattle.hub_messages.specs.Screen.{found_at}
use Rattle.hub_messages.specs.Spelling.Spells.{SpellsUp, SpellsDown}
use Rattle.hub_messages.specs.Stage.{IsLawful, Machine}
use Rattle.hub_messages.specs.declared.answer.Asked.{Asked}
use Rattle.hub_messages.specs.declared.answer.Got.{Got}
use Rattle.hub_messages.specs.declared.answer.Got.TheVariants as gt
use Rattle.hub_messages.specs.declared.down.Down.{Down}
use Rattle.hub_messages.specs.declared.screen.At.{At}
use Rattle.hub_messages.specs.declared.screen.At.TheVariants.{NoNode, NoHandler, Handler}
use Rattle.hub_messages.specs.declared.up.Up.{Up}
use Rattle.circuit_meaning.specs.Browser.Asks.{Asks, AsksAt, is_full}
use Rattle.circuit_meaning.specs.Browser.Bytes.{HearsBytes, OnlySays, ReceivesBytes}
use Rattle.circuit_meaning.specs.Browser.Greeting.{Connects}
use Rattle.circuit_meaning.specs.Browser.Receives.{Hears, Only, Receives, Where}
use Rattle.circuit_meaning.specs.Browser.State.{BrowserState, is_present}
use Rattle.circuit_meaning.specs.Circuit.State.{BatchRow, CircuitState}
use Rattle.client_core.specs.Standing.{browser_of}
use Rattle.schedule_replay.specs.declared.direct_line.message.Message.TheVariants as bytes
use Rattle.schedule_replay.specs.declared.direct_line.state.Line.{Line}
use Rattle.schedule_replay.specs.Line.InStep.{Chains, IsBatchOf, IsInStep, IsOf, IsOfLine, IsSoundIf}
use Rattle.schedule_replay.specs.Line.Lines.{line_text, rows_of, shown_after, user_text, exchange_text, ShowsAnswer}
use Rattle.schedule_replay.specs.Line.Server.{Serves}
use Rattle.schedule_replay.specs.Line.Standing.{SpellsMessage, StandsLine, StandsServer}
use Rattle.schedule_replay.specs.Line.State.{LineState, Message, upward, downward, connection, numbers_between, sent_between}
use Rattle.schedule_replay.specs.Line.Steps.{Delivers, Ends, OpenStep, UserStep, DeliverUp, DeliverDown}
use Rattle.schedule_replay.specs.Texts.{answer_text, applied_text, asked_text, numbered}
use Rattle.schedule_replay.proofs.Line.BrowserLemmas.{OneTree, OneCount, Shows, shows-same, receives-sees, where-cases}
use Rattle.schedule_replay.proofs.Line.EveryLemmas.{every-at}
use Rattle.schedule_replay.proofs.Line.InStepLemmas.{in-step-down, in-step-up}
use Rattle.schedule_replay.proofs.Line.ZipLemmas.{zip-append, zip-down, zip-left, zip-length, zip-up}

-- bytes of a direction spell a message of this direction
up-of : (next : Option Message) (spelling : List ℕ) (message : Message) → next ≡ Some message → SpellsMessage (bytes.Up spelling) message → (found : Up) × (next ≡ Some (upward found)) × SpellsUp spelling found
up-of next spelling (upward message) is spells = (message, is, spells)
up-of next spelling (downward message) is spells = absurd spells

down-of : (next : Option Message) (spelling : List ℕ) (message : Message) → next ≡ Some message → SpellsMessage (bytes.Down spelling) message → (found : Down) × (next ≡ Some (downward found)) × SpellsDown spelling found
down-of next spelling (upward message) is spells = absurd spells
down-of next spelling (downward message) is spells = (message, is, spells)

-- an event changes neither the tree nor what is applied
asks-at-same : {Tree : Type 0} (at : At) (name : List ℕ) (text : Option (List ℕ)) (before after : BrowserState Tree) (asked : Asked) (ups : List Up) → AsksAt at name text before asked ups after
    → (after.tree ≡ before.tree) × (after.status.applied ≡ before.status.applied)
asks-at-same {Tree} NoNode name text before after asked ups does = (ap (λ (b : BrowserState Tree). b.tree) does.2, ap (λ (b : BrowserState Tree). b.status.applied) does.2)
asks-at-same {Tree} NoHandler name text before after asked ups does = (ap (λ (b : BrowserState Tree). b.tree) does.2, ap (λ (b : BrowserState Tree). b.status.applied) does.2)
asks-at-same {Tree} (Handler handler) name text before after asked ups does =
    where-cases (is_full before) _ _ ((after.tree ≡ before.tree) × (after.status.applied ≡ before.status.applied)) does
    (λ test only. (ap (λ (b : BrowserState Tree). b.tree) only.2, ap (λ (b : BrowserState Tree). b.status.applied) only.2))
    (λ test next. (ap (λ (b : BrowserState Tree). b.tree) next.2, ap (λ (b : BrowserState Tree). b.status.applied) next.2))

asks-same : {Tree : Type 0} (found : Tree → At) (name : List ℕ) (text : Option (List ℕ)) (before after : BrowserState Tree) (asked : Asked) (ups : List Up) → Asks found name text before asked ups after
    → (after.tree ≡ before.tree) × (after.status.applied ≡ before.status.applied)
asks-same {Tree} found name text before after asked ups does =
    where-cases before.status.over _ _ ((after.tree ≡ before.tree) × (after.status.applied ≡ before.status.applied)) does
    (λ test only. (ap (λ (b : BrowserState Tree). b.tree) only.2, ap (λ (b : BrowserState Tree). b.status.applied) only.2))
    (λ test asks. asks-at-same (found before.tree) name text before after asked ups asks)

-- bytes that spell a message are received as this message
abbrev Received : {Tree : Type 0} → (ℕ → List ℕ → Tree → Tree → Counts → Type 0) → Bool → Down → BrowserState Tree → Got → List (List ℕ) → BrowserState Tree → Type 0
Received turns present message before got pieces after =
    (ups : List Up) × AllZip SpellsUp pieces ups × Where present (Hears turns message before got ups after) (Only gt.OldConnection before got ups after)

received : {Tree : Type 0} (turns : ℕ → List ℕ → Tree → Tree → Counts → Type 0) (present : Bool) (spelling : List ℕ) (message : Down) (before after : BrowserState Tree) (got : Got) (pieces : List (List ℕ))
    → SpellsDown spelling message → Where present (HearsBytes turns spelling before got pieces after) (OnlySays gt.OldConnection before got pieces after)
    → Received turns present message before got pieces after
received {Tree} turns true spelling message before after got pieces spells (inl heard) =
    let same : heard.0 ≡ message = one_down spelling heard.0 message heard.1 spells in
    let sent = heard.2 in
    (sent.0, sent.1, subst (λ (m : Down). Hears turns m before got sent.0 after) same sent.2)
received turns true spelling message before after got pieces spells (inr none) = absurd (none.0 message spells)
received turns false spelling message before after got pieces spells only =
    ([], subst (λ (x : List (List ℕ)). AllZip SpellsUp x []) (sym only.1) tt, (only.0, refl, only.2))

receives-one : {Tree : Type 0} (turns : ℕ → List ℕ → Tree → Tree → Counts → Type 0) (connection : ℕ) (spelling : List ℕ) (message : Down) (before after : BrowserState Tree) (got : Got) (pieces : List (List ℕ))
    → SpellsDown spelling message → ReceivesBytes turns connection spelling before got pieces after
    → (ups : List Up) × AllZip SpellsUp pieces ups × Receives turns connection message before got ups after
receives-one turns connection spelling message before after got pieces spells receives =
    received turns (is_present before.status.connection connection) spelling message before after got pieces spells receives

shows-answer : {Tree : Type 0} (machine : Machine Tree) (page : Tree → List Node) (circuit : Option (CircuitState machine.State)) (got : Got) (tree : Tree) → IsBatchOf machine (rows_of circuit) tree got
    → ShowsAnswer machine page circuit got (answer_text got) (shown_after got (page tree))
shows-answer machine page circuit (gt.Applied number counts) tree is = (is.0, is.1, ap (applied_text number) is.2, ap (λ t. Some (page t)) is.3)
shows-answer machine page circuit _ tree is = (refl, refl)

chain-if : {Tree : Type 0} (ends : Ends Tree) (first : Tree) (circuit : Option (CircuitState ends.machine.State)) → IsSoundIf ends first circuit → Chains ends first (rows_of circuit)
chain-if ends first None sound = λ place row found. absurd (cc)
chain-if ends first (Some circuit) sound = sound.chain

module _ {Stage Screen Tree : Type 0} (ends : Ends Tree) (first : Tree) (stands : Stage → ends.machine.State → Type 0) (tree : Screen → Tree) where
  abbrev State : Type 0
  State = LineState ends.machine.State Tree

  abbrev with_up : State → BrowserState Tree → List Up → ℕ → State
  with_up state browser ups delivered = record state { steps = state.steps + 1; browser = browser; messages = state.messages ++ map upward ups; delivered = delivered }

  -- the browser made a step
  pub stands-up : (before after : Line Stage Screen Tree) (state : State) (ups : List Up) (pieces : List (List ℕ)) (delivered : ℕ) → StandsLine ends first stands tree before state
      → Shows ends first (rows_of state.circuit) (browser_of tree after.client) → AllZip SpellsUp pieces ups
      → after.server ≡ before.server → after.messages.items ≡ before.messages.items ++ map bytes.Up pieces → after.delivered ≡ delivered → after.steps ≡ before.steps + 1
      → StandsLine ends first stands tree after (with_up state (browser_of tree after.client) ups delivered)
  stands-up before after state ups pieces delivered stood shows spelled server messages place steps = record {
    server = subst (λ s. StandsServer ends.machine stands ends.stage s state.circuit) (sym server) stood.server;
    browser = refl;
    messages = subst (λ ms. AllZip SpellsMessage ms (state.messages ++ map upward ups)) (sym messages)
        (zip-append SpellsMessage before.messages.items state.messages (map bytes.Up pieces) (map upward ups) stood.messages (zip-up pieces ups spelled));
    delivered = place;
    steps = steps ∙ ap (λ (n : ℕ). n + 1) stood.steps;
    in_step = in-step-up ends first state (browser_of tree after.client) ups delivered stood.in_step shows;
  }

  -- what was sent, by the code and by the state
  pub sent-same : (before after : Line Stage Screen Tree) (state next : State) → StandsLine ends first stands tree before state → StandsLine ends first stands tree after next
      → numbers_between (length before.messages.items) (length after.messages.items) ≡ sent_between state next
  sent-same before after state next stood now =
      ap (λ (n : ℕ). numbers_between n (length after.messages.items)) (zip-length SpellsMessage before.messages.items state.messages stood.messages)
      ∙ ap (λ (n : ℕ). numbers_between (length state.messages) n) (zip-length SpellsMessage after.messages.items next.messages now.messages)

  abbrev Rows : State → List (BatchRow ends.machine.State)
  Rows state = rows_of state.circuit

  shows-now : (line : Line Stage Screen Tree) (state : State) → StandsLine ends first stands tree line state → Shows ends first (Rows state) state.browser
  shows-now line state stood = record { applied = stood.in_step.applied; shown = stood.in_step.shown }

  pub open-stands : (before after : Line Stage Screen Tree) (state : State) (ups : List Up) (pieces : List (List ℕ)) (text : List ℕ) → StandsLine ends first stands tree before state
      → Connects (browser_of tree before.client) connection ups (browser_of tree after.client) → AllZip SpellsUp pieces ups
      → after.server ≡ before.server → after.messages.items ≡ before.messages.items ++ map bytes.Up pieces → after.delivered ≡ before.delivered → after.steps ≡ before.steps + 1
      → text ≡ line_text after.steps (codes "open 0") (numbered (codes "connection") connection) (numbers_between (length before.messages.items) (length after.messages.items)) None
      → (next : State) × StandsLine ends first stands tree after next × OpenStep ends state text next
  open-stands before after state ups pieces text stood connects spelled server messages place steps is =
      let browser : BrowserState Tree = browser_of tree after.client in
      let moved : Connects state.browser connection ups browser = subst (λ (b : BrowserState Tree). Connects b connection ups browser) stood.browser connects in
      let shows = shows-same ends first (Rows state) state.browser browser (shows-now before state stood)
      (ap (λ (b : BrowserState Tree). b.tree) moved.1) (ap (λ (b : BrowserState Tree). b.status.applied) moved.1) in
      let next : State = with_up state browser ups state.delivered in
      let now = stands-up before after state ups pieces state.delivered stood shows spelled server messages (place ∙ stood.delivered) steps in
      let line : text ≡ line_text next.steps (codes "open 0") (numbered (codes "connection") connection) (sent_between state next) None =
      is ∙ ap (λ (sent : List ℕ). line_text after.steps (codes "open 0") (numbered (codes "connection") connection) sent None) (sent-same before after state next stood now)
      ∙ ap (λ (n : ℕ). line_text n (codes "open 0") (numbered (codes "connection") connection) (sent_between state next) None) now.steps in
      (next, now, (ups, browser, moved, refl, line))

  pub user-stands : (before after : Line Stage Screen Tree) (state : State) (path event : List ℕ) (asked : Asked) (ups : List Up) (pieces : List (List ℕ)) (text : List ℕ) → StandsLine ends first stands tree before state
      → Asks (λ (t : Tree). found_at (ends.page t) path event) event None (browser_of tree before.client) asked ups (browser_of tree after.client) → AllZip SpellsUp pieces ups
      → after.server ≡ before.server → after.messages.items ≡ before.messages.items ++ map bytes.Up pieces → after.delivered ≡ before.delivered → after.steps ≡ before.steps + 1
      → text ≡ line_text after.steps (user_text path event) (asked_text asked) (numbers_between (length before.messages.items) (length after.messages.items)) None
      → (next : State) × StandsLine ends first stands tree after next × UserStep ends path event state text next
  user-stands before after state path event asked ups pieces text stood asks spelled server messages place steps is =
      let browser : BrowserState Tree = browser_of tree after.client in
      let found : Tree → At = λ t. found_at (ends.page t) path event in
      let moved : Asks found event None state.browser asked ups browser = subst (λ (b : BrowserState Tree). Asks found event None b asked ups browser) stood.browser asks in
      let same = asks-same found event None state.browser browser asked ups moved in
      let shows = shows-same ends first (Rows state) state.browser browser (shows-now before state stood) same.0 same.1 in
      let next : State = with_up state browser ups state.delivered in
      let now = stands-up before after state ups pieces state.delivered stood shows spelled server messages (place ∙ stood.delivered) steps in
      let line : text ≡ line_text next.steps (user_text path event) (asked_text asked) (sent_between state next) None =
      is ∙ ap (λ (sent : List ℕ). line_text after.steps (user_text path event) (asked_text asked) sent None) (sent-same before after state next stood now)
      ∙ ap (λ (n : ℕ). line_text n (user_text path event) (asked_text asked) (sent_between state next) None) now.steps in
      (next, now, (asked, ups, browser, moved, refl, line))

  -- the message that is next is delivered to the browser
  pub down-stands : OneTree ends → OneCount ends → (before after : Line Stage Screen Tree) (state : State) (message : Down) (spelling : List ℕ) (got : Got) (pieces : List (List ℕ)) (text : List ℕ)
      → StandsLine ends first stands tree before state → slice_get state.messages state.delivered ≡ Some (downward message) → SpellsDown spelling message
      → ReceivesBytes ends.turns connection spelling (browser_of tree before.client) got pieces (browser_of tree after.client)
      → after.server ≡ before.server → after.messages.items ≡ before.messages.items ++ map bytes.Up pieces → after.delivered ≡ before.delivered + 1 → after.steps ≡ before.steps + 1
      → text ≡ line_text after.steps (numbered (codes "deliver") after.delivered) (answer_text got) (numbers_between (length before.messages.items) (length after.messages.items))
      (shown_after got (ends.page (browser_of tree after.client).tree))
      → (next : State) × StandsLine ends first stands tree after next × DeliverDown ends message state text next
  down-stands one_tree one_count before after state message spelling got pieces text stood found spells receives server messages place steps is =
      let browser : BrowserState Tree = browser_of tree after.client in
      let rows = Rows state in
      let sent = receives-one ends.turns connection spelling message (browser_of tree before.client) browser got pieces spells receives in
      let ups : List Up = sent.0 in
      let moved : Receives ends.turns connection message state.browser got ups browser =
      subst (λ (b : BrowserState Tree). Receives ends.turns connection message b got ups browser) stood.browser sent.2 in
      let of_rows : IsOf rows message = every-at (IsOfLine rows) state.messages state.delivered (downward message) stood.in_step.messages found in
      let sees = receives-sees ends first rows (chain-if ends first state.circuit stood.in_step.circuit) one_tree one_count connection message state.browser browser got ups (shows-now before state stood) of_rows moved in
      let next : State = with_up state browser ups (state.delivered + 1) in
      let delivered : after.delivered ≡ state.delivered + 1 = place ∙ ap (λ (n : ℕ). n + 1) stood.delivered in
      let now = stands-up before after state ups pieces (state.delivered + 1) stood sees.0 sent.1 server messages delivered steps in
      let shown : Option (List Node) = shown_after got (ends.page browser.tree) in
      let line : text ≡ line_text next.steps (numbered (codes "deliver") next.delivered) (answer_text got) (sent_between state next) shown =
      is ∙ ap (λ (s : List ℕ). line_text after.steps (numbered (codes "deliver") after.delivered) (answer_text got) s shown) (sent-same before after state next stood now)
      ∙ ap (λ (n : ℕ). line_text n (numbered (codes "deliver") after.delivered) (answer_text got) (sent_between state next) shown) now.steps
      ∙ ap (λ (n : ℕ). line_text next.steps (numbered (codes "deliver") n) (answer_text got) (sent_between state next) shown) delivered in
      (next, now, (got, ups, browser, answer_text got, shown, moved, refl, shows-answer ends.machine ends.page state.circuit got browser.tree sees.1, line))

  -- the message that is next is delivered to the server
  pub up-stands : IsLawful first ends.turns ends.machine → ends.machine.First ends.stage → (before after : Line Stage Screen Tree) (state : State) (message : Up) (replies : List Down)
      (circuit : Option (CircuitState ends.machine.State)) (pieces : List (List ℕ)) (text : List ℕ)
      → StandsLine ends first stands tree before state → Serves ends.machine ends.stage ends.window state.circuit message replies circuit
      → StandsServer ends.machine stands ends.stage after.server circuit → AllZip SpellsDown pieces replies
      → after.client ≡ before.client → after.messages.items ≡ before.messages.items ++ map bytes.Down pieces → after.delivered ≡ before.delivered + 1 → after.steps ≡ before.steps + 1
      → text ≡ line_text after.steps (numbered (codes "deliver") after.delivered) (exchange_text message replies) (numbers_between (length before.messages.items) (length after.messages.items)) None
      → (next : State) × StandsLine ends first stands tree after next × DeliverUp ends message state text next
  up-stands lawful begins before after state message replies circuit pieces text stood serves server spelled client messages place steps is =
      let next : State = record state { steps = state.steps + 1; circuit = circuit; messages = state.messages ++ map downward replies; delivered = state.delivered + 1 } in
      let delivered : after.delivered ≡ state.delivered + 1 = place ∙ ap (λ (n : ℕ). n + 1) stood.delivered in
      let now : StandsLine ends first stands tree after next = record {
        server = server;
        browser = ap (λ c. browser_of tree c) client ∙ stood.browser;
        messages = subst (λ ms. AllZip SpellsMessage ms (state.messages ++ map downward replies)) (sym messages)
            (zip-append SpellsMessage before.messages.items state.messages (map bytes.Down pieces) (map downward replies) stood.messages (zip-down pieces replies spelled));
        delivered = delivered;
        steps = steps ∙ ap (λ (n : ℕ). n + 1) stood.steps;
        in_step = in-step-down ends first lawful begins state message replies circuit (state.delivered + 1) stood.in_step serves;
      } in
      let line : text ≡ line_text next.steps (numbered (codes "deliver") next.delivered) (exchange_text message replies) (sent_between state next) None =
      is ∙ ap (λ (s : List ℕ). line_text after.steps (numbered (codes "deliver") after.delivered) (exchange_text message replies) s None) (sent-same before after state next stood now)
      ∙ ap (λ (n : ℕ). line_text n (numbered (codes "deliver") after.delivered) (exchange_text message replies) (sent_between state next) None) now.steps
      ∙ ap (λ (n : ℕ). line_text next.steps (numbered (codes "deliver") n) (exchange_text message replies) (sent_between state next) None) delivered in
      (next, now, (replies, circuit, serves, refl, line))

-- the bytes that are next spell the message that is next
pub next-up : {Stage Screen Tree : Type 0} (ends : Ends Tree) (first : Tree) (stands : Stage → ends.machine.State → Type 0) (tree : Screen → Tree) (line : Line Stage Screen Tree) (state : LineState ends.machine.State Tree) (spelling : List ℕ)
    → StandsLine ends first stands tree line state → slice_get line.messages.items line.delivered ≡ Some (bytes.Up spelling)
    → (message : Up) × (slice_get state.messages state.delivered ≡ Some (upward message)) × SpellsUp spelling message
next-up ends first stands tree line state spelling stood found =
    let pair = zip-left SpellsMessage line.messages.items state.messages line.delivered (bytes.Up spelling) stood.messages found in
    up-of (slice_get state.messages state.delivered) spelling pair.0 (subst (λ (n : ℕ). slice_get state.messages n ≡ Some pair.0) stood.delivered pair.1) pair.2

pub next-down : {Stage Screen Tree : Type 0} (ends : Ends Tree) (first : Tree) (stands : Stage → ends.machine.State → Type 0) (tree : Screen → Tree) (line : Line Stage Screen Tree) (state : LineState ends.machine.State Tree) (spelling : List ℕ)
    → StandsLine ends first stands tree line state → slice_get line.messages.items line.delivered ≡ Some (bytes.Down spelling)
    → (message : Down) × (slice_get state.messages state.delivered ≡ Some (downward message)) × SpellsDown spelling message
next-down ends first stands tree line state spelling stood found =
    let pair = zip-left SpellsMessage line.messages.items state.messages line.delivered (bytes.Down spelling) stood.messages found in
    down-of (slice_get state.messages state.delivered) spelling pair.0 (subst (λ (n : ℕ). slice_get state.messages n ≡ Some pair.0) stood.delivered pair.1) pair.2

-- the message that is read is the one that is next
pub delivers-up : {Tree : Type 0} (ends : Ends Tree) (state next : LineState ends.machine.State Tree) (spelling : List ℕ) (message read : Up) (text : List ℕ)
    → slice_get state.messages state.delivered ≡ Some (upward message) → SpellsUp spelling message → SpellsUp spelling read → DeliverUp ends read state text next
    → Delivers ends (slice_get state.messages state.delivered) state text next
delivers-up ends state next spelling message read text found spells other does =
    let same : read ≡ message = one_up spelling read message other spells in
    subst (λ (m : Option Message). Delivers ends m state text next) (sym found) (subst (λ (m : Up). DeliverUp ends m state text next) same does)

pub delivers-down : {Tree : Type 0} (ends : Ends Tree) (state next : LineState ends.machine.State Tree) (message : Down) (text : List ℕ)
    → slice_get state.messages state.delivered ≡ Some (downward message) → DeliverDown ends message state text next → Delivers ends (slice_get state.messages state.delivered) state text next
delivers-down ends state next message text found does = subst (λ (m : Option Message). Delivers ends m state text next) (sym found) does
