mod ExchangeLemmas
mod FrameLemmas
mod ListLemmas
mod Opens
mod ServeLemmas
mod StepLemmas
mod StreamLemmas
