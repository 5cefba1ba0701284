mod Laws
mod Steps
